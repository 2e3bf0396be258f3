-- The fields of a record that columns choose.
use Rattle.std.proofs.Common.{◌≡◌, ◌<◌, ℕ, Bool, true, false, List, [], length, get_or, map, Err, refl}
use Rattle.std.specs.Global.{Vec}
use Rattle.std.proofs.lemmas.List.{get_or-map, length-map}
use Rattle.exh_pair_text.specs.declared.columns.Columns.{Columns}
use Rattle.exh_pair_text.specs.declared.wrong_line.WrongLine.TheVariants.{Fields}
use Rattle.exh_pair_text.specs.Reading.{fields_pair, has_columns, two_spelled}

pub chosen : (hex : Bool) (columns : Columns) (fields : List (Vec ℕ)) (one other : Vec ℕ) → has_columns columns (length fields) ≡ true → columns.key < length fields → columns.value < length fields
    → fields_pair hex columns (map (λ field. field.items) fields) ≡ two_spelled hex (get_or fields columns.key one).items (get_or fields columns.value other).items
unfolding fields_pair
chosen hex columns fields one other fit key value =
    rw (length-map fields (λ (field : Vec ℕ). field.items), fit, get_or-map (λ (field : Vec ℕ). field.items) fields columns.key one [] key, get_or-map (λ (field : Vec ℕ). field.items) fields columns.value other [] value) refl

pub unchosen : (hex : Bool) (columns : Columns) (fields : List (Vec ℕ)) → has_columns columns (length fields) ≡ false → fields_pair hex columns (map (λ field. field.items) fields) ≡ Err (Fields (length fields) columns.width)
unfolding fields_pair
unchosen hex columns fields fit = rw (length-map fields (λ (field : Vec ℕ). field.items), fit) refl
