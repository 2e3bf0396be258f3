-- The object of a pair reads as the pair.
use Rattle.std.proofs.Common.{◌≡◌, ℕ, ◌<◌, List, Bool, true, false, Some, Ok, IsUtf8, refl, sym, arith}
use Rattle.std.specs.Prelude.{◌||◌, not, codes}
use Rattle.std.specs.Str.{is_utf8}
use Rattle.std.specs.List.{AllByRecursion}
use Rattle.std.proofs.lemmas.List.Elements.{recursion_from_All}
use Rattle.std.proofs.lemmas.Str.{IsUtf8-from_is_utf8, is_utf8-from_IsUtf8}
use Rattle.json.proofs.Printed.Trees.{document-print}
use Rattle.exh_pair_text.specs.declared.field.Field.TheVariants.{Key, Value}
use Rattle.exh_pair_text.specs.Json.{digits_name, in_digits, json_words, pair_object, plain_name, string_by}
use Rattle.exh_pair_text.specs.Laws.{IsPair}
use Rattle.exh_pair_text.specs.Reading.{hex_bytes, json_bytes, json_in, json_pair, named_pair, object_pair}
use Rattle.exh_pair_text.proofs.Again.{hex_bytes_again}
use Rattle.exh_pair_text.proofs.Cases.{key_kept, value_kept}
use Rattle.exh_pair_text.proofs.JsonText.{digits_utf8, object_by, words_utf8}

-- ---- UTF-8

string_utf8 : (hex utf8 : Bool) (bytes : List ℕ) → utf8 ≡ is_utf8 bytes → AllByRecursion (λ byte. byte < 256) bytes → IsUtf8 (string_by (hex || not utf8) bytes)
string_utf8 true utf8 bytes is all = digits_utf8 bytes all
string_utf8 false false bytes is all = digits_utf8 bytes all
string_utf8 false true bytes is all = IsUtf8-from_is_utf8 bytes (sym is)

-- ---- its fields

pub digits_again : (field : _) (bytes : List ℕ) → AllByRecursion (λ byte. byte < 256) bytes → hex_bytes field (string_by true bytes) ≡ Ok bytes
unfolding hex_bytes
digits_again field bytes all = rw (hex_bytes_again 1 bytes all) refl

key_again : (hex utf8 b : Bool) (key value : List ℕ) → AllByRecursion (λ byte. byte < 256) key → json_bytes Key hex (plain_name Key) (digits_name Key) (object_by (hex || not utf8) b key value) ≡ Ok key
unfolding json_bytes
key_again true utf8 true key value all = digits_again Key key all
key_again true utf8 false key value all = digits_again Key key all
key_again false false true key value all = digits_again Key key all
key_again false false false key value all = digits_again Key key all
key_again false true true key value all = refl
key_again false true false key value all = refl

value_again : (hex utf8 a : Bool) (key value : List ℕ) → AllByRecursion (λ byte. byte < 256) value → json_bytes Value hex (plain_name Value) (digits_name Value) (object_by a (hex || not utf8) key value) ≡ Ok value
unfolding json_bytes
value_again true utf8 true key value all = digits_again Value value all
value_again true utf8 false key value all = digits_again Value value all
value_again false false true key value all = digits_again Value value all
value_again false false false key value all = digits_again Value value all
value_again false true true key value all = refl
value_again false true false key value all = refl

-- ---- the pair

object_again : (hex : Bool) (key value : List ℕ) → IsPair key value → object_pair hex (codes "key") (codes "value") (pair_object hex key value) ≡ Ok (key, value)
unfolding object_pair named_pair
object_again hex key value pair =
    rw (
      key_again hex (is_utf8 key) (in_digits hex value) key value (recursion_from_All _ key pair.key_bytes),
      key_kept key pair.some pair.key_limit,
      value_again hex (is_utf8 value) (in_digits hex key) key value (recursion_from_All _ value pair.value_bytes),
      value_kept value pair.value_limit,
    ) refl

found_again : (hex : Bool) (key value : List ℕ) → IsPair key value → json_in (json_words hex key value) ≡ Some (pair_object hex key value)
unfolding json_in
found_again hex key value pair =
    let k = string_utf8 hex (is_utf8 key) key refl (recursion_from_All _ key pair.key_bytes) in
    let v = string_utf8 hex (is_utf8 value) value refl (recursion_from_All _ value pair.value_bytes) in
    let utf8 = words_utf8 (in_digits hex key) (in_digits hex value) key value k v in
    rw (is_utf8-from_IsUtf8 (json_words hex key value) utf8) (document-print (pair_object hex key value) (tt, (tt, tt)) (omega arith))

pub json_again : (hex : Bool) (key value : List ℕ) → IsPair key value → json_pair hex (codes "key") (codes "value") (json_words hex key value) ≡ Ok (key, value)
unfolding json_pair
json_again hex key value pair = rw (found_again hex key value pair, object_again hex key value pair) refl
