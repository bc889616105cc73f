-- Texts: names and labels with the 00 after them. Valid: keys that keep the rules. Lengths: how long keys are.
-- RoundTrip: keys and their bytes say the same. KeyOrder: byte order is the order of keys. EntryKeys: the keys of entries.
-- EntryTests, KeyTests: the tests of bytes are the definitions. Reading: what reading gives. Puts: fields put one after the other.
-- Cases: cases of document 01.
pub mod Texts
pub mod Valid
pub mod Lengths
pub mod RoundTrip
pub mod KeyOrder
pub mod EntryKeys
pub mod EntryTests
pub mod KeyTests
pub mod Reading
pub mod Puts
pub mod Cases
