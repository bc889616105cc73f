-- Message: the rules and the bytes of a message. Read: what bytes say as a message. Layouts: bounds of a layout. Places: the layout of the places that the code has. Write: what writing one leaves.
-- Cases: worked cases of documents 01 and 02.
pub mod Message
pub mod Read
pub mod Layouts
pub mod Places
pub mod Write
pub mod Cases
