-- Key: what a key says, its rules and its bytes. Write: writing a key. Read: reading one. Entry: label keys, which the store holds.
-- Parts: the parts of a key's bytes. Tests: reading by tests of bytes. Cases: cases of document 01.
pub mod Key
pub mod Write
pub mod Read
pub mod Entry
pub mod Parts
pub mod Tests
pub mod Cases
