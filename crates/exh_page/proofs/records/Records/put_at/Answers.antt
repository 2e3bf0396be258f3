use Rattle.std.proofs.Common.{refl, sym, subst, ◌∙◌}
use Rattle.exh_page.specs.Place.{place_of}
use Rattle.exh_page.specs.Search.{IsFound, IsGap, IsSought}
use Rattle.exh_page.specs.declared.record.Record.{Record}
use Rattle.exh_page.proofs.Searched.{set_found, insert_gap, refused_found, refused_at_gap, rising_with}
use Rattle.exh_page.proofs.records.Records.put_at.Goals as goal

pub invariant_of-self : goal.invariant_of-self
invariant_of-self c =
    let item : Record = record { pseudokey = c.args.pseudokey; key = c.args.key.now; value = c.args.value.now } in
    let sought = subst (IsSought (place_of item) c.args.self.now) c.in-Ok.is c.requires in
    let found : IsFound (place_of item) c.self.inside.packed c.in-Ok.spot.index = subst (λ records. IsFound (place_of item) records c.in-Ok.spot.index) (sym c.self.view_is) sought.1 in
    rising_with item _ _ (c.in_ok-replace-in-Ok.ensures.ok ∙ set_found item found refl) c.self.invariant

pub returns-in_ok-replace-in-Ok-clause-ok : goal.returns-in_ok-replace-in-Ok-clause-ok
returns-in_ok-replace-in-Ok-clause-ok c =
    let item : Record = record { pseudokey = c.args.pseudokey; key = c.args.key.now; value = c.args.value.now } in
    let sought = subst (IsSought (place_of item) c.args.self.now) c.in-Ok.is c.requires in
    let found : IsFound (place_of item) c.self.inside.packed c.in-Ok.spot.index = subst (λ records. IsFound (place_of item) records c.in-Ok.spot.index) (sym c.self.view_is) sought.1 in
    c.in_ok-replace-in-Ok.ensures.ok ∙ set_found item found c.self.view_is

pub returns-in_err-replace-in-Ok-clause-replaces : goal.returns-in_err-replace-in-Ok-clause-replaces
returns-in_err-replace-in-Ok-clause-replaces c =
    let item : Record = record { pseudokey = c.args.pseudokey; key = c.args.key.now; value = c.args.value.now } in
    let sought = subst (IsSought (place_of item) c.args.self.now) c.in-Ok.is c.requires in
    let found : IsFound (place_of item) c.self.inside.packed c.in-Ok.spot.index = subst (λ records. IsFound (place_of item) records c.in-Ok.spot.index) (sym c.self.view_is) sought.1 in
    refused_found item _ found c.self.view_is c.in_err-replace-in-Ok.ensures.fits

pub invariant_of-self-in-Continue-branch-2 : goal.invariant_of-self-in-Continue-branch-2
invariant_of-self-in-Continue-branch-2 c =
    let item : Record = record { pseudokey = c.args.pseudokey; key = c.args.key.now; value = c.args.value.now } in
    let sought = subst (IsSought (place_of item) c.args.self.now) c.in-Err.is c.requires in
    let gap : IsGap (place_of item) c.self.inside.packed c.in-Err.spot.index = subst (λ records. IsGap (place_of item) records c.in-Err.spot.index) (sym c.self.view_is) sought.1 in
    rising_with item _ _ (c.in_ok-insert-in-Err.ensures.ok ∙ insert_gap item gap refl) c.self.invariant

pub returns-in_ok-insert-in-Err-clause-ok : goal.returns-in_ok-insert-in-Err-clause-ok
returns-in_ok-insert-in-Err-clause-ok c =
    let item : Record = record { pseudokey = c.args.pseudokey; key = c.args.key.now; value = c.args.value.now } in
    let sought = subst (IsSought (place_of item) c.args.self.now) c.in-Err.is c.requires in
    let gap : IsGap (place_of item) c.self.inside.packed c.in-Err.spot.index = subst (λ records. IsGap (place_of item) records c.in-Err.spot.index) (sym c.self.view_is) sought.1 in
    c.in_ok-insert-in-Err.ensures.ok ∙ insert_gap item gap c.self.view_is

pub returns-in_err-insert-in-Err-clause-replaces : goal.returns-in_err-insert-in-Err-clause-replaces
returns-in_err-insert-in-Err-clause-replaces c =
    let item : Record = record { pseudokey = c.args.pseudokey; key = c.args.key.now; value = c.args.value.now } in
    let sought = subst (IsSought (place_of item) c.args.self.now) c.in-Err.is c.requires in
    refused_at_gap item _ sought.1 refl
