use Rattle.std.proofs.Common.{◌≡◌, ◌∷◌, ◌++◌, [], Bool, List, suc, drop, take, append_assoc, ap, sym, ◌∙◌, subst, get_or, ◌+◌, arith}
use Rattle.std.specs.Option.{option_to_list}
use Rattle.std.proofs.lemmas.Bool.{false≢true}
use Rattle.exh_format.specs.declared.file_entry.FileEntry.{FileEntry}
use Rattle.exh_format.specs.TableImage.{AreRising, prefixes_of}
use Rattle.exh_format.proofs.Rising.{rising_next, next_precedes, prefixes_split, prefixes_more}
use Rattle.exh_format.proofs.table_block.are_rising.Goals as goal

pub returns-then-not-may_precede : goal.returns-then-not-may_precede
returns-then-not-may_precede c = (
  λ no. absurd (false≢true no),
  λ rising.
      let items = c.args.entries.now in
      let i = c.loop-item.item-index in
      let item = c.item-item.result in
      let front = option_to_list c.args.before ++ prefixes_of (take i items) in
      let rest = prefixes_of (drop (suc i) items) in
      let here : (get_or items i item).prefix ≡ item.prefix = ap (λ (item : FileEntry). item.prefix) (sym c.item-item.is) in
      let split : option_to_list c.args.before ++ prefixes_of items ≡ front ++ item.prefix ∷ rest =
      ap (λ (prefixes : List (List Bool)). option_to_list c.args.before ++ prefixes) (prefixes_split items i item (omega arith) ∙ ap (λ (prefix : List Bool). prefixes_of (take i items) ++ prefix ∷ rest) here)
      ∙ sym (append_assoc (option_to_list c.args.before) (prefixes_of (take i items)) (item.prefix ∷ rest)) in
      let precedes = c.may_precede.ensures.1 (next_precedes front c.loop-item.last item.prefix rest c.loop-item.invariant.last (subst AreRising split rising)) in
      absurd (false≢true (sym c.if-not-may_precede.true ∙ precedes)),
)

pub loop-item-preserved : goal.loop-item-preserved
loop-item-preserved c =
    let items = c.args.entries.now in
    let i = c.loop-item.item-index in
    let item = c.item-item.result in
    let front = option_to_list c.args.before ++ prefixes_of (take i items) in
    let here : (get_or items i item).prefix ≡ item.prefix = ap (λ (item : FileEntry). item.prefix) (sym c.item-item.is) in
    let more : option_to_list c.args.before ++ prefixes_of (take (i + 1) items) ≡ front ++ item.prefix ∷ [] =
    ap (λ (prefixes : List (List Bool)). option_to_list c.args.before ++ prefixes) (prefixes_more items i item (omega arith) ∙ ap (λ (prefix : List Bool). prefixes_of (take i items) ++ prefix ∷ []) here)
    ∙ sym (append_assoc (option_to_list c.args.before) (prefixes_of (take i items)) (item.prefix ∷ [])) in
    record {
      rising = subst AreRising (sym more) (rising_next front c.loop-item.last item.prefix c.loop-item.invariant.last c.loop-item.invariant.rising (c.may_precede.ensures.0 c.if-not-may_precede.false));
      last = (front, more);
    }
