-- Cut: keys end to end. Valid: what an undamaged store is. Place: where a key goes, a label's stretch. Front: the key at the front of some bytes. Pass: the pass over the keys, key by key.
pub mod Cut
pub mod Valid
pub mod Place
pub mod Front
pub mod Pass
