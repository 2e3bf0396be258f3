use Rattle.std.proofs.Common.{◌≡◌, ◌+◌, ◌-◌, List, ℕ, [], ◌∷◌, ◌++◌, length, take, drop, sym, ap, ◌∙◌, subst, arith}
use Rattle.std.proofs.lemmas.List.{length-append, length-drop, take-append-drop}
use Rattle.exh_page.specs.declared.record.Record.{Record}
use Rattle.exh_page.specs.Page.{records_of}
use Rattle.exh_page.specs.Place.{Place, place_of}
use Rattle.exh_page.specs.Records.{with_record}
use Rattle.exh_page.specs.RecordsLemmas.{place_cmp-exact}
use Rattle.exh_page.specs.Search.{IsStood}
use Rattle.exh_frames.specs.InPlace.{AreKeyed, IsEdit, IsPlaceIn}
use Rattle.exh_frames.proofs.Contents.{has_records}
use Rattle.exh_frames.proofs.Keyed.{keyed_between, keyed_over}
use Rattle.exh_frames.proofs.Places.{edit_before, edit_over, put_before, put_over}
use Rattle.exh_frames.proofs.edit.open_gap.Goals as goal

pub gap_over-requires : goal.gap_over-requires
gap_over-requires c =
    let page = c.requires.0 in
    let takes = c.requires.4 in
    let there = subst (IsStood (place_of c.requires.1) (records_of page)) c.in-Some.is takes.stands in
    omega (arith, there.1.within, takes.content.few)

pub returns-in-Some-clause-edit : goal.returns-in-Some-clause-edit
returns-in-Some-clause-edit c page item at same takes =
    let records = records_of page in
    let there = subst (IsStood (place_of item) records) c.in-Some.is takes.stands in
    subst (IsEdit records (item ∷ []) (with_record item records)) (sym c.gap_over.ensures) (edit_over records c.args.starts.now at item c.in-Some.spot.index there.1)

pub returns-in-Some-clause-keyed : goal.returns-in-Some-clause-keyed
returns-in-Some-clause-keyed c page item at same takes =
    let records = records_of page in
    let there = subst (IsStood (place_of item) records) c.in-Some.is takes.stands in
    let i = c.in-Some.spot.index in
    let found = there.1 in
    let word : found.found.pseudokey ≡ item.pseudokey = ap (λ (p : Place). p.0) (place_cmp-exact (place_of found.found) (place_of item) found.cut.here.0) in
    subst (λ (l : List Record). AreKeyed l c.args.pseudokeys.now) (sym (put_over item records i found))
    (keyed_over (take i records) (drop (i + 1) records) found.found item c.args.pseudokeys.now word (subst (λ (l : List Record). AreKeyed l c.args.pseudokeys.now) found.cut.whole takes.hashed.keyed))

pub index_of_place-index-requires : goal.index_of_place-index-requires
index_of_place-index-requires c = let takes = c.requires.4 in (c.requires.0, takes.content, c.requires.2, takes.hashed)

pub insert_pseudokey-requires-clause-within : goal.insert_pseudokey-requires-clause-within
insert_pseudokey-requires-clause-within c =
    let page = c.requires.0 in
    let takes = c.requires.4 in
    let said = has_records c.args.block.now page takes.content in
    let place = c.index_of_place-index.ensures page takes.content c.requires.2 takes.hashed in
    omega (arith, place.within, c.from-count.ensures, said.1.count)

pub insert_pseudokey-requires-clause-room : goal.insert_pseudokey-requires-clause-room
insert_pseudokey-requires-clause-room c =
    let page = c.requires.0 in
    let item = c.requires.1 in
    let takes = c.requires.4 in
    let records = records_of page in
    let i = c.index_of_place-index.result in
    let said = has_records c.args.block.now page takes.content in
    let none = subst (IsStood (place_of item) records) c.in-None.is takes.stands in
    let place : place_of item ≡ (c.args.pseudokey, c.as_bytes.result.now) = c.requires.3 ∙ ap (λ (k : List ℕ). (c.args.pseudokey, k)) (sym c.as_bytes.ensures.bytes) in
    let at = subst (λ (p : Place). IsPlaceIn p records i) (sym place) (c.index_of_place-index.ensures page takes.content c.requires.2 takes.hashed) in
    omega (
      arith,
      takes.room,
      ap length (put_before item records i at none),
      ap length (take-append-drop i records),
      length-append (take i records) (item ∷ drop i records),
      length-append (take i records) (drop i records),
      c.from-count.ensures,
      said.1.count,
    )

pub returns-in-None-clause-edit : goal.returns-in-None-clause-edit
returns-in-None-clause-edit c page item at same takes =
    let records = records_of page in
    let i = c.index_of_place-index.result in
    let none = subst (IsStood (place_of item) records) c.in-None.is takes.stands in
    let place : place_of item ≡ (c.args.pseudokey, c.as_bytes.result.now) = same ∙ ap (λ (k : List ℕ). (c.args.pseudokey, k)) (sym c.as_bytes.ensures.bytes) in
    let there = subst (λ (p : Place). IsPlaceIn p records i) (sym place) (c.index_of_place-index.ensures page takes.content at takes.hashed) in
    subst (IsEdit records (item ∷ []) (with_record item records)) (sym c.gap_before.ensures) (edit_before records c.args.starts.now at item i there none)

pub returns-in-None-clause-keyed : goal.returns-in-None-clause-keyed
returns-in-None-clause-keyed c page item at same takes =
    let records = records_of page in
    let i = c.index_of_place-index.result in
    let said = has_records c.args.block.now page takes.content in
    let none = subst (IsStood (place_of item) records) c.in-None.is takes.stands in
    let place : place_of item ≡ (c.args.pseudokey, c.as_bytes.result.now) = same ∙ ap (λ (k : List ℕ). (c.args.pseudokey, k)) (sym c.as_bytes.ensures.bytes) in
    let there = subst (λ (p : Place). IsPlaceIn p records i) (sym place) (c.index_of_place-index.ensures page takes.content at takes.hashed) in
    let n : ℕ = c.from-count.result - i in
    let rest : List ℕ = drop (c.from-count.result + 1) c.args.pseudokeys.now in
    let behind : length (drop i records) ≡ n = omega (arith, length-drop i records, c.from-count.ensures, said.1.count) in
    let word : item.pseudokey ≡ c.args.pseudokey = ap (λ (p : Place). p.0) same in
    let all = keyed_between records item c.args.pseudokeys.now rest i n there.within behind takes.hashed.keyed in
    subst (λ (l : List Record). AreKeyed l c.insert_pseudokey.new.pseudokeys) (sym (put_before item records i there none))
    (subst (AreKeyed (take i records ++ item ∷ drop i records)) (ap (λ (w : ℕ). take i c.args.pseudokeys.now ++ w ∷ (take n (drop i c.args.pseudokeys.now) ++ rest)) word ∙ sym c.insert_pseudokey.ensures) all)
