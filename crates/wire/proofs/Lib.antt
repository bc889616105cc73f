-- Tests: what a Bool says. Lists: lists as sets. Orders: comparisons that are orders. Parts: parts of lists, as loops meet them.
-- BigEndian, LittleEndian: numbers in bytes. StdNumbers: std's definitions of them. ByteOrder: plain byte order, the first 0, common starts. Words: the same, by numbers of several bytes. Fields: fields in bytes, going on and going back, and written one after the other.
pub mod Tests
pub mod Lists
pub mod Orders
pub mod Parts
pub mod BigEndian
pub mod Fields
pub mod LittleEndian
pub mod StdNumbers
pub mod ByteOrder
pub mod Words
