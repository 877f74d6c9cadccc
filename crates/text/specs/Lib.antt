-- Text as definitions: lines, words, numbers and HEX.
pub mod Text
