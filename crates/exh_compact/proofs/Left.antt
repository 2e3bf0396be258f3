-- What is left of wards that aren't counted.
use Rattle.std.proofs.Common.{◌≡◌, ℕ, ◌<◌, List, Result, Ok, Err, IfErr, IsErrAnd, Some, slice_get, length, refl, sym, subst, ap, ◌∙◌, arith}
use Rattle.std.specs.Prelude.{slice_set}
use Rattle.exh_keyer.specs.declared.any_keyer.AnyKeyer.{AnyKeyer}
use Rattle.exh_ward.specs.WardFault.{CountsFailures, PageRefused}
use Rattle.exh_ward.specs.WardState.{IsUnchanged, WardState}
use Rattle.exh_ward.specs.declared.ward_fault.WardFault.{WardFault}
use Rattle.exh_ward.specs.declared.ward_fault.WardFault.TheVariants.{NoPage, NotLive, NotFull, AtLimit, NoBuddy, BuddySplit, TooMany, Worn, Memory, Page}
use Rattle.exh_compact.specs.Reach.{AreLeft, IsWardLeft}
use Rattle.exh_compact.proofs.Shapes.{set_same}

-- a page that is there wasn't read
pub page_left : (T : Type 0) (old new : WardState AnyKeyer) (number : ℕ) (fault : WardFault) → number < length old.pages → PageRefused old.pages number fault → IsUnchanged old new
    → CountsFailures {T = T} (Err fault) old.failures new.failures → IsWardLeft old new fault
page_left T old new number NoPage within refused same counted = absurd (omega (arith, within, refused))
page_left T old new number NotLive within refused same counted = refused
page_left T old new number NotFull within refused same counted = refused
page_left T old new number AtLimit within refused same counted = refused
page_left T old new number NoBuddy within refused same counted = refused
page_left T old new number BuddySplit within refused same counted = refused
page_left T old new number (TooMany sum) within refused same counted = refused
page_left T old new number Worn within refused same counted = refused
page_left T old new number Memory within refused same counted = same ∙ ap (λ (n : ℕ). record old { failures = n }) counted
page_left T old new number Page within refused same counted = (same, counted)

-- a ward of these wasn't counted
pub ward_left : (wards : List (WardState AnyKeyer)) (number : ℕ) (before after : WardState AnyKeyer) (fault : WardFault) → slice_get wards number ≡ Some before → IsWardLeft before after fault → AreLeft wards (slice_set wards number after) fault
ward_left wards number before after NoPage there left = left
ward_left wards number before after NotLive there left = left
ward_left wards number before after NotFull there left = left
ward_left wards number before after AtLimit there left = left
ward_left wards number before after NoBuddy there left = left
ward_left wards number before after BuddySplit there left = left
ward_left wards number before after (TooMany sum) there left = left
ward_left wards number before after Worn there left = left
ward_left wards number before after Memory there left = set_same wards number before after there left
ward_left wards number before after Page there left = record { number = number; before = before; after = after; there = there; is = refl; left = left }

-- whatever is answered for a fault
pub err_is : {T : Type 0} (result : Result T WardFault) (fault : WardFault) (P : WardFault → Type 0) → IsErrAnd result (λ e. e ≡ fault) → P fault → IfErr result P
err_is (Ok value) fault P is holds = tt
err_is (Err e) fault P is holds = subst P (sym is) holds
