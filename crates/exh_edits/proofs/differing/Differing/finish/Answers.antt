use Rattle.std.proofs.Common.{rules, ◌≡◌, ◌<◌, ◌≤◌, ◌/◌, ℕ, length, take, ◌∙◌, ap, sym, arith}
use Rattle.std.proofs.lemmas.Bool.{false≢true, ne_eqb}
use Rattle.std.proofs.lemmas.List.{length-take-le}
use Rattle.exh_edits.specs.Comparison.{contents_of}
use Rattle.exh_edits.proofs.Compared.{pair_is, shown_count, shown_early, shown_whole}
use Rattle.exh_edits.proofs.differing.Differing.finish.Goals as goal
use Rattle.exh_edits.proofs.differing.Differing.finish.Goals.{then-self-eq0, else-self-eq0}

pub returns-in-Some-clause-same_bytes : goal.returns-in-Some-clause-same_bytes
returns-in-Some-clause-same_bytes g c = λ old new is.
    let inside = c.self.inside in
    (pair_is (g.B.Blocks.known inside.file) inside.edits.items inside.place (take inside.filled inside.block) old new (ap contents_of c.self.view_is ∙ is)).0

pub returns-in-None-clause-same_bytes : goal.returns-in-None-clause-same_bytes
returns-in-None-clause-same_bytes g c = λ old new is.
    let inside = c.self.inside in
    (pair_is (g.B.Blocks.known inside.file) inside.edits.items inside.place (take inside.filled inside.block) old new (ap contents_of c.self.view_is ∙ is)).0

pub returns-in-None-2-clause-same_bytes : goal.returns-in-None-2-clause-same_bytes
returns-in-None-2-clause-same_bytes g c = λ old new is.
    let inside = c.self.inside in
    (pair_is (g.B.Blocks.known inside.file) inside.edits.items inside.place (take inside.filled inside.block) old new (ap contents_of c.self.view_is ∙ is)).0

pub returns-in-None-clause-made : goal.returns-in-None-clause-made
returns-in-None-clause-made g c = λ old new is blocks.
    let inside = c.self.inside in
    let known = g.B.Blocks.known inside.file in
    let begun = take inside.filled inside.block in
    let shown = ap contents_of c.self.view_is ∙ is in
    elim c.if-self-eq0.branch [
      | then-self-eq0 w ↦
          let enough : w.count.result ≤ inside.place = search rules in
          let count = shown_count known inside.edits.items inside.place begun old new c.self.invariant.edits_are shown w.count.result w.count.ensures.bytes in
          shown_whole known inside.edits.items inside.place begun old new c.self.invariant.edits_are shown (ap (λ (n : ℕ). take n inside.block) w.if-self-eq0.true) (omega (arith, enough, count)) blocks
      | else-self-eq0 w ↦ absurd (false≢true (sym (ne_eqb inside.filled 0 w.if-self-eq0.false) ∙ sym w.is_whole-is ∙ c.if-is_whole.true))
    ]

pub returns-in-None-2-clause-shorter : goal.returns-in-None-2-clause-shorter
returns-in-None-2-clause-shorter g c = λ old new is same.
    let inside = c.self.inside in
    let known = g.B.Blocks.known inside.file in
    let begun = take inside.filled inside.block in
    let shown = ap contents_of c.self.view_is ∙ is in
    let long : length inside.block ≡ 4096 = search rules in
    let len : length begun ≡ inside.filled = length-take-le inside.filled inside.block (omega (arith, c.self.invariant.room, long)) in
    let few : length begun ≡ 0 → inside.place < length old / 4096 = elim c.if-self-eq0.branch [
      | then-self-eq0 w ↦
          let less : inside.place < w.count.result = search rules in
          let count = shown_count known inside.edits.items inside.place begun old new c.self.invariant.edits_are shown w.count.result w.count.ensures.bytes in
          λ none. omega (arith, less, count)
      | else-self-eq0 w ↦ λ none. absurd (w.if-self-eq0.false (sym len ∙ none))
    ] in
    shown_early known inside.edits.items inside.place begun old new c.self.invariant.edits_are shown (omega (arith, len, c.self.invariant.room)) few
