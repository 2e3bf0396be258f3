-- Which parts of a line are its key and its value: of a record of comma-separated fields those of two columns, of an object those
-- of two names.
use Rattle.std.specs.Prelude.{ℕ, List, ◌++◌, codes}
use Rattle.exh_pair_text.specs.declared.columns.Columns.{Columns}
use Rattle.exh_pair_text.specs.declared.layout.Layout.{Layout}

pub record Parts : Type 0 where
  pub columns : Columns
  pub key : List ℕ
  pub value : List ℕ

abbrev pub parts_of : Layout → Parts
parts_of layout = record { columns = layout.columns; key = layout.names.key.now; value = layout.names.value.now }

-- ---- where no others are asked for

abbrev pub two_columns : Columns
two_columns = record { key = 0; value = 1; width = 2 }

abbrev pub usual : Parts
usual = record { columns = two_columns; key = codes "key"; value = codes "value" }

-- the name of the field that has the hexadecimal digits of a named one
abbrev pub digits_of : List ℕ → List ℕ
digits_of name = name ++ codes "_hex"
