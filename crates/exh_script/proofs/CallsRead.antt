-- Words whose bytes are in their ranges are read as their call.
use Rattle.std.proofs.Common.{◌≡◌, ℕ, ◌≤◌, List, length, Bool, true, Some, Ok, Err, sym, ap, ◌∙◌, arith}
use Rattle.std.specs.Prelude.{◌&&◌, if◌then◌else◌}
use Rattle.std.proofs.lemmas.Bool.Decides.{nat_tests}
use Rattle.exh_page.specs.declared.key.TheConstants.{KEY_LIMIT}
use Rattle.exh_page.specs.declared.value.TheConstants.{VALUE_LIMIT}
use Rattle.exh_calls.specs.declared.call.Call.{Call}
use Rattle.exh_calls.specs.declared.call.Call.TheVariants.{Get, Put, Del}
use Rattle.exh_text.specs.ByteWord.{key_in_range, value_in_range}
use Rattle.exh_text.specs.LineFault.{ranged}
use Rattle.exh_text.specs.declared.line_fault.LineFault.TheVariants.{Range}
use Rattle.exh_line.specs.Grammar.{call_in_range}

key_fits : (key : List ℕ) → 1 ≤ length key → length key ≤ KEY_LIMIT → key_in_range key ≡ true
key_fits key some few = grind (arith, nat_tests)

value_fits : (value : List ℕ) → length value ≤ VALUE_LIMIT → value_in_range value ≡ true
value_fits value few = grind (arith, nat_tests)

ranged_ok : (call : Call) → call_in_range call ≡ true → ranged call_in_range (Some call) ≡ Ok call
ranged_ok call fits = ap (λ (test : Bool). if test then Ok call else Err Range) fits

pub get_read : (key read : List ℕ) → (1 ≤ length key) × (length key ≤ KEY_LIMIT) → read ≡ key → ranged call_in_range (Some (Get key)) ≡ Ok (Get read)
get_read key read fits is = ranged_ok (Get key) (key_fits key fits.0 fits.1) ∙ ap (λ (k : List ℕ). Ok (Get k)) (sym is)

pub del_read : (key read : List ℕ) → (1 ≤ length key) × (length key ≤ KEY_LIMIT) → read ≡ key → ranged call_in_range (Some (Del key)) ≡ Ok (Del read)
del_read key read fits is = ranged_ok (Del key) (key_fits key fits.0 fits.1) ∙ ap (λ (k : List ℕ). Ok (Del k)) (sym is)

pub put_read : (key read value given : List ℕ) → (1 ≤ length key) × (length key ≤ KEY_LIMIT) → read ≡ key → length value ≤ VALUE_LIMIT → given ≡ value → ranged call_in_range (Some (Put key value)) ≡ Ok (Put read given)
put_read key read value given fits is few same =
    ranged_ok (Put key value) (ap (λ (test : Bool). test && value_in_range value) (key_fits key fits.0 fits.1) ∙ value_fits value few)
    ∙ ap (λ (k : List ℕ). Ok (Put k value)) (sym is) ∙ ap (λ (v : List ℕ). Ok (Put read v)) (sym same)
