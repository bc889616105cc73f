-- Answer: the table of answers and refusals. Names: set names and labels. Dots: dots, contexts and their order.
-- Wire: dots in bytes. Entries: what a stored key says, and the lines of a listing. Message: adds and removes.
pub mod Answer
pub mod Names
pub mod Dots
pub mod Wire
pub mod Entries
pub mod Message
