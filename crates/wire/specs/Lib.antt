-- Lists: lists as sets and as ascending lists. Bytes: bytes, their order, numbers in bytes, pieces moved in a buffer. Loans: what is lent, before and after.
pub mod Lists
pub mod Bytes
pub mod Loans
