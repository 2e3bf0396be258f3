use Rattle.std.proofs.Common.{◌≡◌, ℕ, Bool, List, [], ◌∷◌, ◌++◌, map, refl, sym, ap, ◌∙◌, subst, append-nil, append_assoc}
use Rattle.std.specs.FinMap.{entries}
use Rattle.std.specs.List.{AllByRecursion}
use Rattle.exh_prefix.specs.PrefixListLemmas.{AllByRecursion-append}
use Rattle.exh_prefix.specs.Layout.{written_version}
use Rattle.exh_notice.specs.declared.entry.Entry.{Entry}
use Rattle.exh_stream.specs.OutputLemmas.{OnErr-from}
use Rattle.exh_format.specs.declared.file_entry.FileEntry.{FileEntry}
use Rattle.exh_format.specs.TableImage.{IsFileEntry}
use Rattle.exh_format.specs.Writing.{TakesEntries, TakesEntriesBeginning, on_its_way}
use Rattle.exh_format.specs.WritingLemmas.{TakesEntries-none, TakesEntries-then, TakesEntriesBeginning-of_more, TakesEntriesBeginning-then}
use Rattle.exh_file.specs.Saved.{AreShort, file_entry}
use Rattle.exh_file.proofs.saving.write_entries.Goals as goal

-- what is left begins with the next
next_of : (ward : ℕ) (all front : List FileEntry) (left rest : List (List Bool × Entry)) (told : List Bool × Entry) → all ≡ front ++ map (file_entry ward) left → left ≡ told ∷ rest → all ≡ (front ++ file_entry ward told ∷ []) ++ map (file_entry ward) rest
next_of ward all front left rest told split steps =
    split ∙ ap (λ (items : List (List Bool × Entry)). front ++ map (file_entry ward) items) steps ∙ sym (append_assoc front (file_entry ward told ∷ []) (map (file_entry ward) rest))

short_next : (ward : ℕ) (left rest : List (List Bool × Entry)) (told : List Bool × Entry) → left ≡ told ∷ rest → AreShort (map (file_entry ward) left) → AreShort (file_entry ward told ∷ map (file_entry ward) rest)
short_next ward left rest told steps short = subst (λ (items : List (List Bool × Entry)). AreShort (map (file_entry ward) items)) steps short

-- where none is left, all went
whole_of : (ward : ℕ) (all front : List FileEntry) (left : List (List Bool × Entry)) → all ≡ front ++ map (file_entry ward) left → left ≡ [] → front ≡ all
whole_of ward all front left split none = sym (split ∙ ap (λ (items : List (List Bool × Entry)). front ++ map (file_entry ward) items) none ∙ append-nil front)

pub returns-clause-ok : goal.returns-clause-ok
returns-clause-ok g c =
    let inv = c.loop-prefix.invariant in
    let whole = whole_of c.args.ward (map (file_entry c.args.ward) (entries c.args.table.now)) inv.front c.loop-prefix.prefix-iterator inv.split c.in-None.ensures.steps.0 in
    subst (TakesEntries g.W.Write.contents written_version (on_its_way c.args.output.now c.args.waiting.now) (on_its_way c.loop-prefix.output c.loop-prefix.waiting)) whole inv.taken

pub returns-clause-entries : goal.returns-clause-entries
returns-clause-entries g c =
    let inv = c.loop-prefix.invariant in
    let whole = whole_of c.args.ward (map (file_entry c.args.ward) (entries c.args.table.now)) inv.front c.loop-prefix.prefix-iterator inv.split c.in-None.ensures.steps.0 in
    subst (AllByRecursion (IsFileEntry written_version)) whole inv.valid

pub loop-prefix-init : goal.loop-prefix-init
loop-prefix-init g c =
    let given = c.into_iter-prefix-iterator.ensures.into_iter_gives ∙ c.entries-prefix-items.ensures in
    record {
      front = [];
      split = ap (λ (items : List (List Bool × Entry)). map (file_entry c.args.ward) items) (sym given);
      writer = refl;
      taken = TakesEntries-none (on_its_way c.args.output.now c.args.waiting.now);
      valid = tt;
      short = subst (λ (items : List (List Bool × Entry)). AreShort (map (file_entry c.args.ward) items)) (sym given) c.requires.short;
    }

pub write_entry-requires : goal.write_entry-requires
write_entry-requires g c = (short_next c.args.ward c.loop-prefix.prefix-iterator c.next.new.self (c.in-Some.prefix.now, c.in-Some.entry.now) c.in-Some.ensures.steps c.loop-prefix.invariant.short).0

pub loop-prefix-preserved : goal.loop-prefix-preserved
loop-prefix-preserved g c =
    let inv = c.loop-prefix.invariant in
    let told : List Bool × Entry = (c.in-Some.prefix.now, c.in-Some.entry.now) in
    let item = file_entry c.args.ward told in
    record {
      front = inv.front ++ item ∷ [];
      split = next_of c.args.ward (map (file_entry c.args.ward) (entries c.args.table.now)) inv.front c.loop-prefix.prefix-iterator c.next.new.self told inv.split c.in-Some.ensures.steps;
      writer = c.in_ok-write_entry.ensures.same_writer ∙ inv.writer;
      taken = TakesEntries-then inv.taken c.in_ok-write_entry.ensures.ok;
      valid = AllByRecursion-append (IsFileEntry written_version) inv.front (item ∷ []) inv.valid (c.in_ok-write_entry.ensures.valid, tt);
      short = (short_next c.args.ward c.loop-prefix.prefix-iterator c.next.new.self told c.in-Some.ensures.steps inv.short).1;
    }

pub returns-in_err-write_entry-clause-err : goal.returns-in_err-write_entry-clause-err
returns-in_err-write_entry-clause-err g c =
    let inv = c.loop-prefix.invariant in
    let told : List Bool × Entry = (c.in-Some.prefix.now, c.in-Some.entry.now) in
    let all = map (file_entry c.args.ward) (entries c.args.table.now) in
    OnErr-from c.from_residual.result
    (subst (TakesEntriesBeginning g.W.Write.contents written_version (on_its_way c.args.output.now c.args.waiting.now) (on_its_way c.write_entry.new.output c.write_entry.new.self)) (sym (next_of c.args.ward all inv.front c.loop-prefix.prefix-iterator c.next.new.self told inv.split c.in-Some.ensures.steps))
    (TakesEntriesBeginning-of_more (map (file_entry c.args.ward) c.next.new.self) (TakesEntriesBeginning-then inv.taken c.in_err-write_entry.ensures.err)))
