-- Parts: parts of buffers. DamageTest: refusal 1, and what an undamaged state keeps.
pub mod Parts
pub mod DamageTest
