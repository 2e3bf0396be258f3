-- Which permissions the log of a page file gets.
use Rattle.std.specs.Prelude.{◌/◌, ℕ, Bool, true, false, bit_and, bit_or}

-- those of a file of this mode; without its group none for the group, and for others what both the file's group and others have
abbrev pub log_mode : ℕ → Bool → ℕ
log_mode mode true = bit_and mode 0o777
log_mode mode false = bit_or (bit_and mode 0o700) (bit_and (bit_and mode (mode / 8)) 0o007)
