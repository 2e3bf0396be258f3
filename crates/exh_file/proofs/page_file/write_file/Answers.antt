use Rattle.std.proofs.Common.{◌≡◌, ℕ, List, ◌++◌, Option, length, take, drop, OnOk, OnErr, refl, sym, ap, ◌∙◌, subst, rules}
use Rattle.std.specs.Io.KnownBytes.{Appends}
use Rattle.exh_stream.specs.Output.{AppendsBeginning}
use Rattle.exh_format.specs.FileVersion.{written_format}
use Rattle.exh_format.specs.PageFile.{file_bytes}
use Rattle.exh_keyer.specs.declared.any_keyer.AnyKeyer.{AnyKeyer}
use Rattle.exh_ward.specs.WardState.{WardState}
use Rattle.exh_file.specs.Opened.{AreWardsOf, OpenedState, in_file}
use Rattle.exh_file.specs.Reopened.{IsWrittenAgain}
use Rattle.exh_file.specs.Saved.{AreUnchanged, IsLeft, written_file}
use Rattle.exh_file.proofs.Left.{put_back, still_wards}
use Rattle.exh_file.proofs.page_file.write_file.Goals as goal

-- what a writer gets, by its values before and after
moved : {W : Type 0} (contents : W → Option (List ℕ)) (Gets : Option (List ℕ) → Option (List ℕ) → Type 0) (old was new left : W) → was ≡ old → left ≡ new → Gets (contents was) (contents new) → Gets (contents old) (contents left)
moved contents Gets old was new left before after gets = subst (λ w. Gets (contents w) (contents left)) before (subst (λ w. Gets (contents was) (contents w)) (sym after) gets)

pub invariant_of-opened : goal.invariant_of-opened
invariant_of-opened g c =
    let own = c.opened.inside in
    let left = c.write_wards.new.wards in
    let same : AreUnchanged own.wards.items left = subst (λ (wards : List (WardState AnyKeyer)). AreUnchanged wards left) c.deref_mut.ensures.value c.write_wards.ensures.wards in
    let whole = put_back own.wards.len left (drop (length left) own.wards.items) (own.wards.ok.0 ∙ sym same.count) in
    subst (λ (wards : List (WardState AnyKeyer)). AreWardsOf (in_file own.settings wards)) (sym whole) (still_wards (in_file own.settings own.wards.items) left c.opened.invariant same)

pub returns-clause-ok : goal.returns-clause-ok
returns-clause-ok g c =
    let is : in_file c.opened.inside.settings c.deref_mut.result.now ≡ c.args.opened.now = ap (in_file c.opened.inside.settings) c.deref_mut.ensures.value ∙ c.opened.view_is in
    moved g.W.Write.contents (λ old new. OnOk c.write_wards.result (Appends old new (file_bytes written_format (written_file c.args.opened.now)))) _ _ c.write_wards.new.output.writer.now _ c.new-output.ensures.writes_to.1 (search rules)
    (subst (λ (opened : OpenedState). OnOk c.write_wards.result (Appends (g.W.Write.contents c.new-output.result.writer.now) (g.W.Write.contents c.write_wards.new.output.writer.now) (file_bytes written_format (written_file opened)))) is c.write_wards.ensures.ok)

pub returns-clause-again : goal.returns-clause-again
returns-clause-again g c =
    let is : in_file c.opened.inside.settings c.deref_mut.result.now ≡ c.args.opened.now = ap (in_file c.opened.inside.settings) c.deref_mut.ensures.value ∙ c.opened.view_is in
    subst IsWrittenAgain is c.write_wards.ensures.again

pub returns-clause-err : goal.returns-clause-err
returns-clause-err g c =
    let is : in_file c.opened.inside.settings c.deref_mut.result.now ≡ c.args.opened.now = ap (in_file c.opened.inside.settings) c.deref_mut.ensures.value ∙ c.opened.view_is in
    moved g.W.Write.contents (λ old new. OnErr c.write_wards.result (AppendsBeginning old new (file_bytes written_format (written_file c.args.opened.now)))) _ _ c.write_wards.new.output.writer.now _ c.new-output.ensures.writes_to.1 (search rules)
    (subst (λ (opened : OpenedState). OnErr c.write_wards.result (AppendsBeginning (g.W.Write.contents c.new-output.result.writer.now) (g.W.Write.contents c.write_wards.new.output.writer.now) (file_bytes written_format (written_file opened)))) is c.write_wards.ensures.err)

pub returns-clause-wards : goal.returns-clause-wards
returns-clause-wards g c =
    let own = c.opened.inside in
    let left = c.write_wards.new.wards in
    let same : AreUnchanged own.wards.items left = subst (λ (wards : List (WardState AnyKeyer)). AreUnchanged wards left) c.deref_mut.ensures.value c.write_wards.ensures.wards in
    let whole = put_back own.wards.len left (drop (length left) own.wards.items) (own.wards.ok.0 ∙ sym same.count) in
    let kept : IsLeft (in_file own.settings own.wards.items) (in_file own.settings left) = record { settings = refl; unchanged = same } in
    subst (λ (old : OpenedState). IsLeft old (in_file own.settings (take own.wards.len (left ++ drop (length left) own.wards.items)))) c.opened.view_is (subst (λ (wards : List (WardState AnyKeyer)). IsLeft (in_file own.settings own.wards.items) (in_file own.settings wards)) (sym whole) kept)
