use Rattle.std.proofs.Common.{◌≡◌, ◌∷◌, ◌++◌, [], List, replicate, sym, ap, ◌∙◌, subst}
use Rattle.std.proofs.lemmas.List.{map-append, replicate-append-replicate}
use Rattle.exh_array.specs.Pointers.{DirectoryState}
use Rattle.exh_table.specs.Table.{TableMap}
use Rattle.exh_array.specs.Held.{IsHeld}
use Rattle.exh_array.specs.KeptCopies.{AreKept, tables_of}
use Rattle.exh_array.specs.Sent.{unpacked}
use Rattle.exh_array.specs.declared.held_copy.HeldCopy.{HeldCopy}
use Rattle.exh_array.specs.declared.sent_table.SentTable.{SentTable}
use Rattle.exh_array.proofs.KeptCopies.{AreFresh, fresh_kept, fresh_push}
use Rattle.exh_array.proofs.copies.Copies.new.Goals as goal

pub loop-preserved : goal.loop-preserved
loop-preserved c =
    let directory : c.new.result.directory ≡ c.args.start = c.new.ensures.directory ∙ c.in_ok-try_clone.ensures in
    let held = λ (sent : List TableMap). subst (λ (s : DirectoryState). IsHeld s.table sent c.new.result) c.in_ok-try_clone.ensures (c.new.ensures.held sent) in record {
      fresh = subst (AreFresh c.args.start) (sym c.in_ok-push.ensures.items) (fresh_push c.args.start c.loop.copies.items c.new.result c.loop.invariant.fresh directory held);
      tables = ap tables_of c.in_ok-push.ensures.items
          ∙ map-append (λ (copy : HeldCopy). copy.directory.table) c.loop.copies.items (c.new.result ∷ [])
          ∙ ap (λ tables. tables ++ c.new.result.directory.table ∷ []) c.loop.invariant.tables
          ∙ ap (λ (s : DirectoryState). replicate c.loop.counter c.args.start.table ++ s.table ∷ []) directory
          ∙ replicate-append-replicate c.loop.counter 1 c.args.start.table;
    }

pub invariant_of-result : goal.invariant_of-result
invariant_of-result c =
    subst (λ (sent : List SentTable). AreKept c.args.start c.loop.copies.items (unpacked c.args.start.table sent)) (sym c.new-2.ensures) (fresh_kept c.args.start c.loop.copies.items c.requires c.loop.invariant.fresh)
