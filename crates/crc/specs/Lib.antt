-- Crc: CRC-32, bit by bit, and its table. Cases: its check value.
pub mod Crc
pub mod Cases
