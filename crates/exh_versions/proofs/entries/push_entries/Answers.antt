use Rattle.std.proofs.Common.{◌≡◌, ℕ, Bool, List, [], ◌∷◌, ◌++◌, map, sym, ap, ◌∙◌, append-nil, append_assoc}
use Rattle.std.specs.FinMap.{entries}
use Rattle.exh_notice.specs.declared.entry.Entry.{Entry}
use Rattle.exh_format.specs.declared.file_entry.FileEntry.{FileEntry}
use Rattle.exh_versions.specs.PlainFile.{file_entry}
use Rattle.exh_versions.proofs.entries.push_entries.Goals as goal

-- what is left begins with the next
next_of : (ward : ℕ) (all front : List FileEntry) (left rest : List (List Bool × Entry)) (told : List Bool × Entry) → all ≡ front ++ map (file_entry ward) left → left ≡ told ∷ rest → all ≡ (front ++ file_entry ward told ∷ []) ++ map (file_entry ward) rest
next_of ward all front left rest told split steps =
    split ∙ ap (λ (items : List (List Bool × Entry)). front ++ map (file_entry ward) items) steps ∙ sym (append_assoc front (file_entry ward told ∷ []) (map (file_entry ward) rest))

-- where none is left, all were put
whole_of : (ward : ℕ) (all front : List FileEntry) (left : List (List Bool × Entry)) → all ≡ front ++ map (file_entry ward) left → left ≡ [] → front ≡ all
whole_of ward all front left split none = sym (split ∙ ap (λ (items : List (List Bool × Entry)). front ++ map (file_entry ward) items) none ∙ append-nil front)

pub loop-prefix-init : goal.loop-prefix-init
loop-prefix-init c =
    let given = c.into_iter-prefix-iterator.ensures.into_iter_gives ∙ c.entries-prefix-items.ensures in
    record {
      front = [];
      split = ap (λ (items : List (List Bool × Entry)). map (file_entry c.args.ward) items) (sym given);
      put = sym (append-nil c.args.entries.now.items);
    }

pub loop-prefix-preserved : goal.loop-prefix-preserved
loop-prefix-preserved c =
    let inv = c.loop-prefix.invariant in
    let told : List Bool × Entry = (c.in-Some.prefix.now, c.in-Some.entry.now) in
    let item = file_entry c.args.ward told in
    record {
      front = inv.front ++ item ∷ [];
      split = next_of c.args.ward (map (file_entry c.args.ward) (entries c.args.table.now)) inv.front c.loop-prefix.prefix-iterator c.next.new.self told inv.split c.in-Some.ensures.steps;
      put = c.in_ok-push.ensures.items ∙ ap (λ (items : List FileEntry). items ++ item ∷ []) inv.put ∙ append_assoc c.args.entries.now.items inv.front (item ∷ []);
    }

pub returns : goal.returns
returns c =
    let inv = c.loop-prefix.invariant in
    inv.put ∙ ap (λ (items : List FileEntry). c.args.entries.now.items ++ items) (whole_of c.args.ward (map (file_entry c.args.ward) (entries c.args.table.now)) inv.front c.loop-prefix.prefix-iterator inv.split c.in-None.ensures.steps.0)
