-- of a prefix and its fields: of_number, child, parent, bit and Display
pub mod Made
