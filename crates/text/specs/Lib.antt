-- What stands at a place of a text: a byte, a number, a fixed byte string; and the text of a number.
pub mod Text
pub mod Number
pub mod Decimal
