use Rattle.std.proofs.Common.{◌≡◌, ℕ, ◌+◌, ◌-◌, ◌/◌, ◌<◌, ◌≤◌, false, List, ◌++◌, length, drop, get_or, slice_index, inl, inr, sym, ap, ◌∙◌, subst, arith, nat_cmp, Ordering}
use Rattle.std.specs.Cmp.Lexicographic.{slice_cmp}
use Rattle.std.specs.List.{AllByRecursion}
use Rattle.std.specs.Ordering.{is_lt, ordering_then}
use Rattle.std.proofs.lemmas.List.{drop_all}
use Rattle.exh_page.specs.declared.record.Record.{Record}
use Rattle.exh_page.specs.KeyMap.{pair_of}
use Rattle.exh_page.specs.Page.{records_of}
use Rattle.exh_page.specs.Place.{place_cmp, place_of}
use Rattle.exh_frames.specs.InPlace.{bytes_of}
use Rattle.exh_frames.proofs.Cells.{at_index, nothing}
use Rattle.exh_frames.proofs.Contents.{has_records}
use Rattle.exh_frames.proofs.Keyed.{keyed_at}
use Rattle.exh_frames.proofs.Places.{back_rest, front_before}
use Rattle.exh_frames.proofs.search.index_of_place.Goals as goal

pub loop-low-init : goal.loop-low-init
loop-low-init c = record {
  order = omega arith;
  found = λ page has at hashed.
      let said = has_records c.args.block.now page has in
      let all : length (records_of page) ≤ c.from-high.result = omega (arith, c.from-high.ensures, said.1.count) in (
        omega (arith, c.from-high.ensures, said.1.count),
        tt,
        subst (AllByRecursion (λ (r : Record). is_lt (place_cmp (place_of r) (c.args.pseudokey, c.args.key.now)) ≡ false)) (sym (drop_all c.from-high.result (records_of page) all)) tt,
      );
}

pub cell_at-requires : goal.cell_at-requires
cell_at-requires c =
    let page = c.requires.0 in
    let records = records_of page in
    let said = has_records c.args.block.now page c.requires.1 in
    let middle = c.loop-low.low + (c.loop-low.high - c.loop-low.low) / 2 in
    let within : middle < length records = omega (arith, c.loop-low-test.true, (c.loop-low.invariant.found page c.requires.1 c.requires.2 c.requires.3).0) in (
      pair_of (get_or records middle nothing),
      bytes_of (drop (middle + 1) records) ++ said.0,
      at_index c.args.block.now records said.0 middle _ nothing said.1.bytes within (c.requires.2 middle (omega (arith, within))),
    )

-- the order that is found is that of the places
order_is : (one : Record) (key stood : List ℕ) (word hash : ℕ) (order words keys : Ordering) → stood ≡ one.key → hash ≡ one.pseudokey
    → words ≡ nat_cmp hash word → keys ≡ slice_cmp nat_cmp stood key → order ≡ ordering_then words keys → place_cmp (place_of one) (word, key) ≡ order
order_is one key stood word hash order words keys stood_is hash_is words_is keys_is is =
    ap (λ (n : ℕ). ordering_then (nat_cmp n word) (slice_cmp nat_cmp one.key key)) (sym hash_is)
    ∙ ap (λ (k : List ℕ). ordering_then (nat_cmp hash word) (slice_cmp nat_cmp k key)) (sym stood_is)
    ∙ ap (λ (o : Ordering). ordering_then o (slice_cmp nat_cmp stood key)) (sym words_is) ∙ ap (ordering_then words) (sym keys_is) ∙ sym is

pub loop-low-preserved-in-Less : goal.loop-low-preserved-in-Less
loop-low-preserved-in-Less c = record {
  order = omega (arith, c.loop-low-test.true);
  found = λ page has at hashed.
      let so_far = c.loop-low.invariant.found page has at hashed in
      let records = records_of page in
      let said = has_records c.args.block.now page has in
      let middle = c.loop-low.low + (c.loop-low.high - c.loop-low.low) / 2 in
      let within : middle < length records = omega (arith, c.loop-low-test.true, so_far.0) in
      let one = get_or records middle nothing in
      let is = at_index c.args.block.now records said.0 middle _ nothing said.1.bytes within (at middle (omega (arith, within))) in
      let cell = c.cell_at.ensures (pair_of one) (bytes_of (drop (middle + 1) records) ++ said.0) is in
      let word : ℕ = slice_index c.args.pseudokeys.now middle in
      let order = order_is one c.args.key.now c.cell_at.result.key.now c.args.pseudokey word c.then.result c.cmp.result c.cmp-in-loop-low.result cell.key (keyed_at records c.args.pseudokeys.now middle nothing hashed.keyed within)
      c.cmp.ensures c.cmp-in-loop-low.ensures c.then.ensures in
      (so_far.0, front_before (c.args.pseudokey, c.args.key.now) records middle nothing hashed.rising within (order ∙ c.in-Less.is), so_far.2);
}

pub loop-low-preserved : goal.loop-low-preserved
loop-low-preserved c = record {
  order = omega (arith, c.loop-low-test.true);
  found = λ page has at hashed.
      let so_far = c.loop-low.invariant.found page has at hashed in
      let records = records_of page in
      let said = has_records c.args.block.now page has in
      let middle = c.loop-low.low + (c.loop-low.high - c.loop-low.low) / 2 in
      let within : middle < length records = omega (arith, c.loop-low-test.true, so_far.0) in
      let one = get_or records middle nothing in
      let is = at_index c.args.block.now records said.0 middle _ nothing said.1.bytes within (at middle (omega (arith, within))) in
      let cell = c.cell_at.ensures (pair_of one) (bytes_of (drop (middle + 1) records) ++ said.0) is in
      let word : ℕ = slice_index c.args.pseudokeys.now middle in
      let order = order_is one c.args.key.now c.cell_at.result.key.now c.args.pseudokey word c.then.result c.cmp.result c.cmp-in-loop-low.result cell.key (keyed_at records c.args.pseudokeys.now middle nothing hashed.keyed within)
      c.cmp.ensures c.cmp-in-loop-low.ensures c.then.ensures in
      let later : is_lt c.then.result ≡ false = elim c.in-Equal.is [ inl equal ↦ ap is_lt equal | inr greater ↦ ap is_lt greater ] in
      (omega (arith, within), so_far.1, back_rest (c.args.pseudokey, c.args.key.now) records middle nothing hashed.rising within (ap is_lt order ∙ later));
}

pub returns : goal.returns
returns c page has at hashed =
    let so_far = c.loop-low.invariant.found page has at hashed in
    let records = records_of page in
    let met : c.loop-low.high ≡ c.loop-low.low = omega (arith, c.loop-low-test.false, c.loop-low.invariant.order) in
    record {
      within = omega (arith, so_far.0, met);
      before = so_far.1;
      rest = subst (λ (n : ℕ). AllByRecursion (λ (r : Record). is_lt (place_cmp (place_of r) (c.args.pseudokey, c.args.key.now)) ≡ false) (drop n records)) met so_far.2;
    }
