-- Document 01's figures, P8 as amended: the hours that they speak of, and the table. And 25.3.5 worked by hand, in another.
pub mod Sample
pub mod Table
pub mod IclTable
