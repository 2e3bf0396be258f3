use Rattle.std.proofs.Common.{◌≡◌, ◌<◌, List, [], ◌∷◌, ◌++◌, length, ap, ◌∙◌, sym, subst, arith}
use Rattle.std.proofs.lemmas.List.{length_push}
use Rattle.exh_table.specs.Table.{TableMap}
use Rattle.exh_table.specs.TableOrder.{IsTableUpTo, table_join}
use Rattle.exh_table.specs.RaisedLemmas.{raised_all, raised_entries-join}
use Rattle.exh_array.specs.Pointers.{DirectoryState, HasArrayOf}
use Rattle.exh_array.proofs.Joined.{joined_already, raised_all-last}
use Rattle.exh_array.proofs.directory.Directory.join_in.Goals as goal

pub returns-then-at_most-clause-ok : goal.returns-then-at_most-clause-ok
returns-then-at_most-clause-ok c =
    let same : c.self.inside.table ≡ c.args.self.now.table = ap (λ (directory : DirectoryState). directory.table) c.self.view_is in
    sym (joined_already c.args.self.now.table c.args.other.now (subst (IsTableUpTo c.args.other.now) same (c.at_most.ensures.0 c.if-at_most.true)))

pub loop-prefix-init : goal.loop-prefix-init
loop-prefix-init c = record {
  rest = ap (raised_all c.in_ok-joined.joined.table) c.entries-entries.ensures
      ∙ raised_entries-join c.in_ok-joined.joined.table c.args.other.now
      ∙ ap (λ (directory : DirectoryState). table_join directory.table c.args.other.now) c.in_ok-joined.ensures;
  array = subst (HasArrayOf c.args.self.now.pointers.ward_bits) (sym c.in_ok-joined.ensures)
      (subst (λ (directory : DirectoryState). HasArrayOf directory.pointers.ward_bits directory) c.self.view_is c.self.invariant.0);
}

shorter : {X : Type 0} (all front : List X) (last : X) → all ≡ front ++ last ∷ [] → length front < length all
shorter all front last is = omega (arith, ap length is, length_push front last)

pub loop-prefix-smaller : goal.loop-prefix-smaller
loop-prefix-smaller c = shorter _ _ _ c.in-Some.ensures.steps

pub loop-prefix-preserved : goal.loop-prefix-preserved
loop-prefix-preserved c = record {
  rest = ap (λ (table : TableMap). raised_all table c.next_back.new.self) c.in_ok-put_greater.ensures.ok
      ∙ sym (raised_all-last c.loop-prefix.joined.table c.next_back.new.self _)
      ∙ ap (raised_all c.loop-prefix.joined.table) (sym c.in-Some.ensures.steps)
      ∙ c.loop-prefix.invariant.rest;
  array = subst (λ n. HasArrayOf n c.put_greater.new.self) c.loop-prefix.invariant.array.bits c.put_greater.ensures.array;
}

pub returns-clause-ok : goal.returns-clause-ok
returns-clause-ok c =
    ap (λ (directory : DirectoryState). directory.table) c.joined-2.view_is
    ∙ ap (raised_all c.loop-prefix.joined.table) (sym c.in_default.ensures.steps.0) ∙ c.loop-prefix.invariant.rest

pub returns-clause-array : goal.returns-clause-array
returns-clause-array c = subst (HasArrayOf c.args.self.now.pointers.ward_bits) (sym c.joined-2.view_is) c.loop-prefix.invariant.array
