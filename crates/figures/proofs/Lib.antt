-- That the figures are those which the definitions compute: the worked example, and the table's claim.
pub mod Worked
pub mod Paid
pub mod Table
