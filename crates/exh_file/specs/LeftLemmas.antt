-- What is left of wards that nothing was done to.
use Rattle.std.specs.Prelude.{List, refl}
use Rattle.std.proofs.Common.{sym, subst}
use Rattle.exh_prefix.specs.PrefixListLemmas.{one_there}
use Rattle.exh_keyer.specs.declared.any_keyer.AnyKeyer.{AnyKeyer}
use Rattle.exh_ward.specs.WardState.{IsUnchanged, WardState}
use Rattle.exh_file.specs.Opened.{OpenedState}
use Rattle.exh_file.specs.Draft.{DraftState, IsDraftLeft}
use Rattle.exh_file.specs.Saved.{AreUnchanged, IsLeft}

-- they are unchanged
pub still_the_same : (wards : List (WardState AnyKeyer)) → AreUnchanged wards wards
still_the_same wards = record {
  count = refl;
  each = λ number ward left is there. let same = one_there wards number left ward there is in subst (λ (w : WardState AnyKeyer). IsUnchanged ward w) (sym same) refl;
}

pub left_as_it_was : (opened : OpenedState) → IsLeft opened opened
left_as_it_was opened = record { settings = refl; unchanged = still_the_same opened.wards }

pub draft_as_it_was : (draft : DraftState) → IsDraftLeft draft draft
draft_as_it_was draft = record { opened = left_as_it_was draft.opened; form = refl }
