use Rattle.std.proofs.Common.{◌≡◌, ℕ, Option, [], ◌∷◌, ◌++◌, ◌≤◌, length, sym, ◌∙◌, subst, append-nil, arith, rules, refl}
use Rattle.std.specs.Prelude.{IfNone, option_to_list}
use Rattle.std.proofs.lemmas.List.{length_push}
use Rattle.std.proofs.lemmas.Result.{IfOk-from_err}
use Rattle.exh_load.specs.LineSource.{AreTaken, IsAdded, IsOver}
use Rattle.exh_load.specs.declared.line_source.TheConstants.{LINE_LEN}
use Rattle.exh_load.proofs.TextLines.{begun_more, items_kept, line_passed, short_few, taken_else, taken_then, text_ended}
use Rattle.exh_load.proofs.line_source.LineSource.next_line.Goals as goal

pub returns-in_default-clause-next : goal.returns-in_default-clause-next
returns-in_default-clause-next g c =
    let R = g.R.Read.remaining in
    let i = c.bytes.invariant in
    let now = c.next_byte.new.self in
    let short = items_kept R now c.bytes.self c.in_ok-byte.ensures.line ∙ i.short in
    let none = subst (λ (o : Option ℕ). AreTaken R c.bytes.self now (option_to_list o)) c.in_default.is c.in_ok-byte.ensures.taken in
    let taken = subst (AreTaken R c.args.self.now now) (append-nil i.given) (taken_then R c.args.self.now c.bytes.self now i.given [] i.taken none) in
    let over = subst (λ (o : Option ℕ). IfNone o (IsOver now)) c.in_default.is c.in_ok-byte.ensures.end in
    text_ended R c.args.self.now now c.end_line.new.self i.given i.line i.amid short c.end_line.ensures.same c.end_line.result c.end_line.ensures.some taken over

pub add-requires : goal.add-requires
add-requires g c =
    let kept = items_kept g.R.Read.remaining c.next_byte.new.self c.bytes.self c.in_ok-byte.ensures.line ∙ c.bytes.invariant.short in
    subst (λ l. length l ≤ LINE_LEN) (sym kept) (short_few LINE_LEN c.bytes.invariant.line)

pub returns-then-branch-clause-next : goal.returns-then-branch-clause-next
returns-then-branch-clause-next g c =
    let R = g.R.Read.remaining in
    let i = c.bytes.invariant in
    let now = c.next_byte.new.self in
    let new = c.add.new.self in
    let short = items_kept R now c.bytes.self c.in_ok-byte.ensures.line ∙ i.short in
    let added = subst (λ b. IsAdded now.line.items c.in-Some.byte new.line.items b) c.if-branch.true c.in_ok-add.ensures.added in
    let one = subst (λ (o : Option ℕ). AreTaken R c.bytes.self now (option_to_list o)) c.in-Some.is c.in_ok-byte.ensures.taken in
    let taken = subst (λ (b : ℕ). AreTaken R c.args.self.now now (i.given ++ b ∷ [])) added.0 (taken_then R c.args.self.now c.bytes.self now i.given (c.in-Some.byte ∷ []) i.taken one) in
    line_passed R c.args.self.now now new i.given i.line i.amid short c.in_ok-add.ensures.same taken added.1 added.2

pub bytes-preserved : goal.bytes-preserved
bytes-preserved g c =
    let R = g.R.Read.remaining in
    let i = c.bytes.invariant in
    let now = c.next_byte.new.self in
    let new = c.add.new.self in
    let short = items_kept R now c.bytes.self c.in_ok-byte.ensures.line ∙ i.short in
    let added = subst (λ b. IsAdded now.line.items c.in-Some.byte new.line.items b) c.if-branch.false c.in_ok-add.ensures.added in
    let one = subst (λ (o : Option ℕ). AreTaken R c.bytes.self now (option_to_list o)) c.in-Some.is c.in_ok-byte.ensures.taken in
    let taken = taken_then R c.args.self.now c.bytes.self now i.given (c.in-Some.byte ∷ []) i.taken one in
    let next = begun_more i.given i.line c.in-Some.byte now.line.items new.line.items i.amid short added in
    record {
      same_reader = search rules;
      ends = search rules;
      given = i.given ++ c.in-Some.byte ∷ [];
      line = next.0;
      taken = taken_else R c.args.self.now now new (i.given ++ c.in-Some.byte ∷ []) c.in_ok-add.ensures.same taken;
      amid = next.1;
      short = next.2;
      counted = omega (arith, length_push i.given c.in-Some.byte, i.counted);
    }

pub returns-in_err-byte-clause-ends : goal.returns-in_err-byte-clause-ends
returns-in_err-byte-clause-ends g c = IfOk-from_err c.from_residual.result _ c.from_residual.ensures.0

pub returns-in_err-byte-clause-next : goal.returns-in_err-byte-clause-next
returns-in_err-byte-clause-next g c = IfOk-from_err c.from_residual.result _ c.from_residual.ensures.0

pub returns-in_err-add-clause-ends : goal.returns-in_err-add-clause-ends
returns-in_err-add-clause-ends g c = IfOk-from_err c.from_residual-in_err-add.result _ c.from_residual-in_err-add.ensures.0

pub returns-in_err-add-clause-next : goal.returns-in_err-add-clause-next
returns-in_err-add-clause-next g c = IfOk-from_err c.from_residual-in_err-add.result _ c.from_residual-in_err-add.ensures.0

pub returns-in_err-byte-clause-same_reader : goal.returns-in_err-byte-clause-same_reader
returns-in_err-byte-clause-same_reader g c = c.next_byte.ensures.same_reader ∙ c.bytes.invariant.same_reader

pub returns-clause-ends : goal.returns-clause-ends
returns-clause-ends g c = tt

pub returns-clause-next : goal.returns-clause-next
returns-clause-next g c = tt

pub returns-clause-same_reader : goal.returns-clause-same_reader
returns-clause-same_reader g c = c.bytes.invariant.same_reader

pub returns-in_default-clause-over : goal.returns-in_default-clause-over
returns-in_default-clause-over g c = λ over. refl

pub returns-then-branch-clause-over : goal.returns-then-branch-clause-over
returns-then-branch-clause-over g c = λ over. refl
