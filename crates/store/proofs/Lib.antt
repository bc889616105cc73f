-- Cut: how bytes are cut into keys. Walk: one turn of a walk over keys. KeyLoops: a loop over keys. Starts: what keys begin with. KeySays: what the key of an entry says.
-- RoundTrip: used bytes and entries. Front: the key at the front. FirstNumbers: order by the first numbers in bytes. OnePass: one pass decides the rules of used bytes.
-- Prefixes: what keys begin with, in a word. NextKey: one key more of the pass. LowFront: the front part that comes before a label's keys. Placed: the place of a key. Inserted: a key put at its place. Stretches: the keys of a label.
pub mod Cut
pub mod Walk
pub mod KeyLoops
pub mod Starts
pub mod KeySays
pub mod RoundTrip
pub mod Front
pub mod FirstNumbers
pub mod OnePass
pub mod LowFront
pub mod NextKey
pub mod Prefixes
pub mod Placed
pub mod Inserted
pub mod Stretches
