use Rattle.std.proofs.Common.{◌≡◌, ℕ, ◌<◌, ◌^◌, List, ◌∷◌, length, ap, arith, sym, ◌∙◌}
use Rattle.exh_text.specs.TextLines.{lines_of}
use Rattle.exh_load.specs.Load.{at_end, beginning, load_after, load_of_lines, refused}
use Rattle.exh_load.proofs.Exits.{same_err, same_front, same_left, same_text}
use Rattle.exh_load.proofs.load_source.load_text.Goals as goal

fewer : (lines rest : List (List ℕ)) (first : List ℕ) → lines ≡ first ∷ rest → length lines < 2 ^ 64 → length rest < 2 ^ 64
fewer lines rest first is few = omega (arith, few, ap length is)

pub returns-in_default-clause-same_writer : goal.returns-in_default-clause-same_writer
returns-in_default-clause-same_writer g c = c.refuse.ensures.same_writer

pub returns-in_default-clause-text : goal.returns-in_default-clause-text
returns-in_default-clause-text g c =
    let same = ap (load_of_lines at_end (beginning c.args.from)) (sym c.in_default.ensures.steps.0 ∙ c.new-lines.ensures) in
    same_text g.W.Write.contents c.args.output.now c.refuse.new.output _ _ same c.refuse.result c.refuse.ensures.text

pub returns-in_default-clause-left : goal.returns-in_default-clause-left
returns-in_default-clause-left g c =
    let same = ap (load_of_lines at_end (beginning c.args.from)) (sym c.in_default.ensures.steps.0 ∙ c.new-lines.ensures) in
    same_left g.W.Write.contents c.args.output.now c.refuse.new.output _ _ same c.refuse.result c.refuse.ensures.left

pub returns-in_default-clause-err : goal.returns-in_default-clause-err
returns-in_default-clause-err g c =
    let same = ap (load_of_lines at_end (beginning c.args.from)) (sym c.in_default.ensures.steps.0 ∙ c.new-lines.ensures) in
    same_err g.W.Write.contents c.args.output.now c.refuse.new.output _ _ same c.refuse.result c.refuse.ensures.err

pub returns-in_default-clause-front : goal.returns-in_default-clause-front
returns-in_default-clause-front g c =
    let same = ap (load_of_lines at_end (beginning c.args.from)) (sym c.in_default.ensures.steps.0 ∙ c.new-lines.ensures) in
    same_front g.W.Write.contents c.args.output.now c.refuse.new.output _ _ same c.refuse.result c.refuse.ensures.front

pub returns-in_default-clause-failed : goal.returns-in_default-clause-failed
returns-in_default-clause-failed g c = c.refuse.ensures.failed

pub returns-in-Ok-clause-same_writer : goal.returns-in-Ok-clause-same_writer
returns-in-Ok-clause-same_writer g c = c.load_pairs.ensures.same_writer

pub returns-in-Ok-clause-text : goal.returns-in-Ok-clause-text
returns-in-Ok-clause-text g c =
    let same = ap (λ told. load_after at_end (beginning c.args.from) told c.next.new.self) c.in-Ok.ensures.line ∙ ap (load_of_lines at_end (beginning c.args.from)) (sym c.in-Some.ensures.steps ∙ c.new-lines.ensures) in
    same_text g.W.Write.contents c.args.output.now c.load_pairs.new.output _ _ same c.load_pairs.result c.load_pairs.ensures.text

pub returns-in-Ok-clause-left : goal.returns-in-Ok-clause-left
returns-in-Ok-clause-left g c =
    let same = ap (λ told. load_after at_end (beginning c.args.from) told c.next.new.self) c.in-Ok.ensures.line ∙ ap (load_of_lines at_end (beginning c.args.from)) (sym c.in-Some.ensures.steps ∙ c.new-lines.ensures) in
    same_left g.W.Write.contents c.args.output.now c.load_pairs.new.output _ _ same c.load_pairs.result c.load_pairs.ensures.left

pub returns-in-Ok-clause-err : goal.returns-in-Ok-clause-err
returns-in-Ok-clause-err g c =
    let same = ap (λ told. load_after at_end (beginning c.args.from) told c.next.new.self) c.in-Ok.ensures.line ∙ ap (load_of_lines at_end (beginning c.args.from)) (sym c.in-Some.ensures.steps ∙ c.new-lines.ensures) in
    same_err g.W.Write.contents c.args.output.now c.load_pairs.new.output _ _ same c.load_pairs.result c.load_pairs.ensures.err

pub returns-in-Ok-clause-front : goal.returns-in-Ok-clause-front
returns-in-Ok-clause-front g c =
    let same = ap (λ told. load_after at_end (beginning c.args.from) told c.next.new.self) c.in-Ok.ensures.line ∙ ap (load_of_lines at_end (beginning c.args.from)) (sym c.in-Some.ensures.steps ∙ c.new-lines.ensures) in
    same_front g.W.Write.contents c.args.output.now c.load_pairs.new.output _ _ same c.load_pairs.result c.load_pairs.ensures.front

pub returns-in-Ok-clause-failed : goal.returns-in-Ok-clause-failed
returns-in-Ok-clause-failed g c = c.load_pairs.ensures.failed

pub returns-in-Err-clause-same_writer : goal.returns-in-Err-clause-same_writer
returns-in-Err-clause-same_writer g c = c.refuse-in-Err.ensures.same_writer

pub returns-in-Err-clause-text : goal.returns-in-Err-clause-text
returns-in-Err-clause-text g c =
    let same = ap refused c.number.ensures ∙ ap (λ told. load_after at_end (beginning c.args.from) told c.next.new.self) c.in-Err.ensures.line ∙ ap (load_of_lines at_end (beginning c.args.from)) (sym c.in-Some.ensures.steps ∙ c.new-lines.ensures) in
    same_text g.W.Write.contents c.args.output.now c.refuse-in-Err.new.output _ _ same c.refuse-in-Err.result c.refuse-in-Err.ensures.text

pub returns-in-Err-clause-left : goal.returns-in-Err-clause-left
returns-in-Err-clause-left g c =
    let same = ap refused c.number.ensures ∙ ap (λ told. load_after at_end (beginning c.args.from) told c.next.new.self) c.in-Err.ensures.line ∙ ap (load_of_lines at_end (beginning c.args.from)) (sym c.in-Some.ensures.steps ∙ c.new-lines.ensures) in
    same_left g.W.Write.contents c.args.output.now c.refuse-in-Err.new.output _ _ same c.refuse-in-Err.result c.refuse-in-Err.ensures.left

pub returns-in-Err-clause-err : goal.returns-in-Err-clause-err
returns-in-Err-clause-err g c =
    let same = ap refused c.number.ensures ∙ ap (λ told. load_after at_end (beginning c.args.from) told c.next.new.self) c.in-Err.ensures.line ∙ ap (load_of_lines at_end (beginning c.args.from)) (sym c.in-Some.ensures.steps ∙ c.new-lines.ensures) in
    same_err g.W.Write.contents c.args.output.now c.refuse-in-Err.new.output _ _ same c.refuse-in-Err.result c.refuse-in-Err.ensures.err

pub returns-in-Err-clause-front : goal.returns-in-Err-clause-front
returns-in-Err-clause-front g c =
    let same = ap refused c.number.ensures ∙ ap (λ told. load_after at_end (beginning c.args.from) told c.next.new.self) c.in-Err.ensures.line ∙ ap (load_of_lines at_end (beginning c.args.from)) (sym c.in-Some.ensures.steps ∙ c.new-lines.ensures) in
    same_front g.W.Write.contents c.args.output.now c.refuse-in-Err.new.output _ _ same c.refuse-in-Err.result c.refuse-in-Err.ensures.front

pub returns-in-Err-clause-failed : goal.returns-in-Err-clause-failed
returns-in-Err-clause-failed g c = c.refuse-in-Err.ensures.failed

pub load_pairs-requires-clause-range : goal.load_pairs-requires-clause-range
load_pairs-requires-clause-range g c = c.in-Ok.ensures.range

pub load_pairs-requires-clause-few : goal.load_pairs-requires-clause-few
load_pairs-requires-clause-few g c = fewer (lines_of c.args.text.now) c.next.new.self c.in-Some.first.now (sym c.new-lines.ensures ∙ c.in-Some.ensures.steps) c.requires.few

pub load_pairs-requires-clause-open : goal.load_pairs-requires-clause-open
load_pairs-requires-clause-open g c = c.requires.open

pub refuse-requires : goal.refuse-requires
refuse-requires g c = c.requires.open
