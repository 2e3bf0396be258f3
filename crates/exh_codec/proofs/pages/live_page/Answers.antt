use Rattle.std.proofs.Common.{◌≡◌, List, Bool, map, take, sym, ap, ◌∙◌, subst}
use Rattle.std.specs.List.{AllByRecursion}
use Rattle.exh_page.specs.Bits.{word_bits}
use Rattle.exh_page.specs.Prefix.{Begins}
use Rattle.exh_page.specs.declared.record.Record.{Record}
use Rattle.exh_page.specs.declared.page.Page.TheVariants.{Live}
use Rattle.exh_page.specs.Records.{IsRising}
use Rattle.exh_page.specs.KeyMap.{pair_of}
use Rattle.exh_codec.specs.Cells.{record_borrowed, Pair, IsSizedPair, pair_in}
use Rattle.exh_codec.specs.ImageTests.{record_of}
use Rattle.exh_codec.proofs.Rising.{pairs_of_records}
use Rattle.exh_codec.proofs.pages.live_page.Goals as goal

pub to_records-requires-clause-sized : goal.to_records-requires-clause-sized
to_records-requires-clause-sized g c =
    let pseudo = g.K.Keyer.pseudokey_of c.args.keyer.now in
    let pairs = map pair_in c.args.cells.now in
    let records : map record_borrowed c.deref-2.result.now ≡ map (record_of pseudo) pairs = ap (map record_borrowed) c.deref-2.ensures.0 ∙ c.in-Some-begun_records.ensures.records in
    subst (AllByRecursion IsSizedPair) (sym (ap (map pair_of) records ∙ pairs_of_records pseudo pairs)) c.requires.sized

pub returns : goal.returns
returns g c =
    let pseudo = g.K.Keyer.pseudokey_of c.args.keyer.now in
    let head = c.args.head in
    let pairs = map pair_in c.args.cells.now in
    let prefix : c.in-Some.prefix ≡ take head.prefix_len (word_bits head.low) = c.in-Some.ensures.1 in
    let records : c.in_ok-to_records.field-0 ≡ map (record_of pseudo) pairs =
    c.in_ok-to_records.ensures ∙ ap (map record_borrowed) c.deref-2.ensures.0 ∙ c.in-Some-begun_records.ensures.records in
    record {
      begins = record {
        prefix = c.in-Some.ensures.0;
        begun = subst (λ (p : List Bool). AllByRecursion (λ (pair : Pair). Begins p (pseudo pair.0)) pairs) prefix c.in-Some-begun_records.ensures.begun;
      };
      rising = subst IsRising (ap (map record_borrowed) c.deref.ensures.0 ∙ c.in-Some-begun_records.ensures.records) (c.are_rising.ensures.0 c.if-not-are_rising.false);
      right = c.right_link.result;
      link = c.right_link.ensures.number;
      named = c.right_link.ensures.other;
      is = ap (λ (p : List Bool). Live p c.right_link.result c.in_ok-to_records.field-0) prefix ∙ ap (λ (r : List Record). Live (take head.prefix_len (word_bits head.low)) c.right_link.result r) records;
    }
