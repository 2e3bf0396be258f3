use Rattle.std.proofs.Common.{◌≡◌, ℕ, List, [], ◌++◌, append_assoc, refl, subst}
use Rattle.std.specs.Prelude.{codes, decimal}
use Rattle.std.proofs.lemmas.Result.{IfOk-from_err}
use Rattle.exh_stream.specs.Output.{Takes, TakesBeginning}
use Rattle.exh_stream.specs.OutputLemmas.{OnErr-from, TakesBeginning-none}
use Rattle.exh_load.specs.Load.{number_line}
use Rattle.exh_load.specs.declared.load_fault.LoadFault.TheVariants.{Memory}
use Rattle.std.proofs.lemmas.Bool.{false≢true}
use Rattle.exh_load.proofs.Exits.{memory_differs, no_fault, only_writer, other_fault, writer_fault}
use Rattle.exh_load.proofs.Lines.{IfErr-from}
use Rattle.exh_load.proofs.Loads.{front_none}
use Rattle.exh_load.proofs.number_line.print_number.Goals as goal

-- a line that is put together part by part
line_made : (word : List ℕ) (number : ℕ) (start first second third bytes : List ℕ) → start ≡ [] → first ≡ start ++ word → second ≡ first ++ decimal number → third ≡ second ++ codes "\n" → bytes ≡ third → bytes ≡ number_line word number
line_made word number start first second third bytes none with_word with_number whole is = rw (is, whole, with_number, with_word, none, append_assoc) refl

pub returns-in_err-push_text-clause-same_writer : goal.returns-in_err-push_text-clause-same_writer
returns-in_err-push_text-clause-same_writer g c = refl

pub returns-in_err-push_text-clause-text : goal.returns-in_err-push_text-clause-text
returns-in_err-push_text-clause-text g c = IfOk-from_err c.from_residual.result _ c.from_residual.ensures.0

pub returns-in_err-push_text-clause-err : goal.returns-in_err-push_text-clause-err
returns-in_err-push_text-clause-err g c = OnErr-from c.from_residual.result (TakesBeginning-none g.W.Write.contents c.args.output.now _)

pub returns-in_err-push_text-clause-front : goal.returns-in_err-push_text-clause-front
returns-in_err-push_text-clause-front g c = IfErr-from c.from_residual.result (λ fault _. front_none g.W.Write.contents c.args.output.now _)

pub returns-in_err-push_text-clause-failed : goal.returns-in_err-push_text-clause-failed
returns-in_err-push_text-clause-failed g c = other_fault c.from_residual.result Memory _ c.from_residual.ensures memory_differs c.requires

pub returns-in_err-push_number-clause-same_writer : goal.returns-in_err-push_number-clause-same_writer
returns-in_err-push_number-clause-same_writer g c = refl

pub returns-in_err-push_number-clause-text : goal.returns-in_err-push_number-clause-text
returns-in_err-push_number-clause-text g c = IfOk-from_err c.from_residual-in_err-push_number.result _ c.from_residual-in_err-push_number.ensures.0

pub returns-in_err-push_number-clause-err : goal.returns-in_err-push_number-clause-err
returns-in_err-push_number-clause-err g c = OnErr-from c.from_residual-in_err-push_number.result (TakesBeginning-none g.W.Write.contents c.args.output.now _)

pub returns-in_err-push_number-clause-front : goal.returns-in_err-push_number-clause-front
returns-in_err-push_number-clause-front g c = IfErr-from c.from_residual-in_err-push_number.result (λ fault _. front_none g.W.Write.contents c.args.output.now _)

pub returns-in_err-push_number-clause-failed : goal.returns-in_err-push_number-clause-failed
returns-in_err-push_number-clause-failed g c = other_fault c.from_residual-in_err-push_number.result Memory _ c.from_residual-in_err-push_number.ensures memory_differs c.requires

pub returns-in_err-push_text-2-clause-same_writer : goal.returns-in_err-push_text-2-clause-same_writer
returns-in_err-push_text-2-clause-same_writer g c = refl

pub returns-in_err-push_text-2-clause-text : goal.returns-in_err-push_text-2-clause-text
returns-in_err-push_text-2-clause-text g c = IfOk-from_err c.from_residual-in_err-push_text-2.result _ c.from_residual-in_err-push_text-2.ensures.0

pub returns-in_err-push_text-2-clause-err : goal.returns-in_err-push_text-2-clause-err
returns-in_err-push_text-2-clause-err g c = OnErr-from c.from_residual-in_err-push_text-2.result (TakesBeginning-none g.W.Write.contents c.args.output.now _)

pub returns-in_err-push_text-2-clause-front : goal.returns-in_err-push_text-2-clause-front
returns-in_err-push_text-2-clause-front g c = IfErr-from c.from_residual-in_err-push_text-2.result (λ fault _. front_none g.W.Write.contents c.args.output.now _)

pub returns-in_err-push_text-2-clause-failed : goal.returns-in_err-push_text-2-clause-failed
returns-in_err-push_text-2-clause-failed g c = other_fault c.from_residual-in_err-push_text-2.result Memory _ c.from_residual-in_err-push_text-2.ensures memory_differs c.requires

pub returns-in_err-push-clause-same_writer : goal.returns-in_err-push-clause-same_writer
returns-in_err-push-clause-same_writer g c = c.push.ensures.same_writer

pub returns-in_err-push-clause-text : goal.returns-in_err-push-clause-text
returns-in_err-push-clause-text g c = IfOk-from_err c.from_residual-in_err-push.result _ c.from_residual-in_err-push.ensures.0

pub returns-in_err-push-clause-err : goal.returns-in_err-push-clause-err
returns-in_err-push-clause-err g c =
    let is = line_made c.args.word.now c.args.number c.new-text.result.items c.push_text.new.out.items c.push_number.new.out.items c.push_text-2.new.out.items c.deref.result.now c.new-text.ensures.items c.in_ok-push_text.ensures.ok c.in_ok-push_number.ensures.ok c.in_ok-push_text-2.ensures.ok c.deref.ensures.value in
    OnErr-from c.from_residual-in_err-push.result (subst (TakesBeginning g.W.Write.contents c.args.output.now c.push.new.self) is c.in_err-push.ensures.err)

pub returns-in_err-push-clause-front : goal.returns-in_err-push-clause-front
returns-in_err-push-clause-front g c = only_writer _ c.from_residual-in_err-push.result c.from_residual-in_err-push.ensures

pub returns-in_err-push-clause-failed : goal.returns-in_err-push-clause-failed
returns-in_err-push-clause-failed g c = writer_fault c.from_residual-in_err-push.result _ c.from_residual-in_err-push.ensures (c.in_err-push.ensures.failed.0 refl)

pub returns-clause-same_writer : goal.returns-clause-same_writer
returns-clause-same_writer g c = c.push.ensures.same_writer

pub returns-clause-text : goal.returns-clause-text
returns-clause-text g c =
    let is = line_made c.args.word.now c.args.number c.new-text.result.items c.push_text.new.out.items c.push_number.new.out.items c.push_text-2.new.out.items c.deref.result.now c.new-text.ensures.items c.in_ok-push_text.ensures.ok c.in_ok-push_number.ensures.ok c.in_ok-push_text-2.ensures.ok c.deref.ensures.value in
    subst (Takes g.W.Write.contents c.args.output.now c.push.new.self) is c.in_ok-push.ensures.ok

pub returns-clause-err : goal.returns-clause-err
returns-clause-err g c = tt

pub returns-clause-front : goal.returns-clause-front
returns-clause-front g c = tt

pub returns-clause-failed : goal.returns-clause-failed
returns-clause-failed g c = no_fault _ _ (λ closed. false≢true (c.in_ok-push.ensures.failed.1 closed))
