mod Spaces
mod Numerals
mod Bytes
mod Parts
mod Inverse
