use Rattle.std.proofs.Common.{◌≡◌, ℕ, List, Result, Ok, Err, IfOk, OnErr, OnOk, sym, ap, ◌∙◌, subst}
use Rattle.std.specs.FinMap.{from_entries}
use Rattle.exh_page.specs.KeyMap.{KeyMap}
use Rattle.exh_ward.specs.declared.ward_fault.WardFault.{WardFault}
use Rattle.exh_in_place.specs.FileChange.{HasMap}
use Rattle.exh_in_place.specs.Opened.{AreWardsOf, OpenedState, in_file}
use Rattle.exh_map.specs.FileMap.{KeepsMap}
use Rattle.exh_map.specs.Pairs.{pairs_in}
use Rattle.exh_map.proofs.WholeMap.{whole_is}
use Rattle.exh_map.proofs.file_map.FileMap.pairs.Goals as goal

map_if : (file : OpenedState) (result : Result (List (List ℕ × List ℕ)) WardFault) → AreWardsOf file → IfOk result (λ pairs. pairs ≡ pairs_in file.wards) → IfOk result (λ pairs. (whole : KeyMap) → HasMap file whole → from_entries pairs ≡ whole)
map_if file (Ok pairs) are is = λ whole has. ap from_entries is ∙ whole_is file are whole has
map_if file (Err fault) are is = tt

pub returns-clause-map : goal.returns-clause-map
returns-clause-map g c =
    subst (λ (file : OpenedState). IfOk c.pairs_of.result (λ pairs. (whole : KeyMap) → HasMap file whole → from_entries pairs ≡ whole)) c.self.view_is
    (map_if (in_file c.self.inside.settings c.self.inside.wards.items) c.pairs_of.result c.self.invariant c.pairs_of.ensures.pairs)

pub returns-clause-err : goal.returns-clause-err
returns-clause-err g c =
    subst (λ (old : OpenedState). OnErr c.pairs_of.result (KeepsMap old (in_file c.self.inside.settings c.pairs_of.new.wards.items))) c.self.view_is c.pairs_of.ensures.err

has_if : (file : OpenedState) (result : Result (List (List ℕ × List ℕ)) WardFault) → IfOk result (λ pairs. pairs ≡ pairs_in file.wards) → OnOk result (HasMap file (from_entries (pairs_in file.wards))) → IfOk result (λ pairs. HasMap file (from_entries pairs))
has_if file (Ok pairs) is has = subst (λ (own : List (List ℕ × List ℕ)). HasMap file (from_entries own)) (sym is) has
has_if file (Err fault) is has = tt

pub returns-clause-has : goal.returns-clause-has
returns-clause-has g c =
    subst (λ (file : OpenedState). IfOk c.pairs_of.result (λ pairs. HasMap file (from_entries pairs))) c.self.view_is
    (has_if (in_file c.self.inside.settings c.self.inside.wards.items) c.pairs_of.result c.pairs_of.ensures.pairs c.pairs_of.ensures.has)
