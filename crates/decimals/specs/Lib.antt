-- Numbers in decimal digits.
pub mod Decimal
