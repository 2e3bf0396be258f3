-- A script whose first line was read.
use Rattle.std.proofs.Common.{◌≡◌, ℕ, List, ◌∷◌, Bool, Some, Result, Ok, sym, ap, ◌∙◌, subst}
use Rattle.exh_text.specs.declared.line_fault.LineFault.{LineFault}
use Rattle.exh_text.specs.FileLine.{file_line_of}
use Rattle.exh_script.specs.Replies.{world_left}
use Rattle.exh_script.specs.Text.{ScriptWorld, Beginning, Start, opened, settings_of, start_in, started, start_of, text_from, text_after, text_of_lines}
use Rattle.exh_line.specs.declared.refusal.Refusal.{Refusal}
use Rattle.exh_text.specs.declared.settings.Settings.{Settings}
use Rattle.exh_script.specs.Left.{file_left, left_after, left_of_lines}
use Rattle.exh_script.specs.Served.{PrintsFront, PrintsFrontFrom}

-- where its first line starts a run
pub start_at : (begin : Beginning) (first : List ℕ) (read : Result Settings LineFault) → read ≡ file_line_of first → start_of begin first ≡ started begin (opened read)
unfolding start_of settings_of
start_at begin first read is = ap (λ read. started begin (opened read)) (sym is)

module _ (begin : Beginning) (lines : List (List ℕ)) (first : List ℕ) (rest : List (List ℕ)) (split : lines ≡ first ∷ rest) (begun : Result Start Refusal) (start : start_of begin first ≡ begun) where
  pub text_started : text_after begun rest ≡ text_of_lines begin lines
  text_started = sym (ap (text_of_lines begin) split ∙ ap (λ begun. text_after begun rest) start)

  pub left_started : left_after begun rest ≡ left_of_lines begin lines
  left_started = sym (ap (left_of_lines begin) split ∙ ap (λ begun. left_after begun rest) start)

  pub front_started : {P : List ℕ → Type 0} → PrintsFrontFrom P begun rest → PrintsFront begin P lines
  front_started {P} h = record {
    first = first;
    front = h.front;
    rest = h.rest;
    split = split ∙ ap (λ rest. first ∷ rest) h.split;
    text = subst (λ begun. P (text_after begun h.front)) (sym start) h.text;
  }

-- ---- the world that it begins

module _ (tells_moves : Bool) (begun : Result ScriptWorld Refusal) where
  -- a run's text and what it leaves, by the world
  pub text_in : (world : ScriptWorld) → Ok world ≡ begun → (lines : List (List ℕ)) → text_from tells_moves world lines ≡ text_after (start_in tells_moves begun) lines
  text_in world is lines = ap (λ begun. text_after (start_in tells_moves begun) lines) is

  pub left_in : (world : ScriptWorld) → Ok world ≡ begun → (lines : List (List ℕ)) (end : ScriptWorld) → end ≡ world_left world lines → Some (file_left end) ≡ left_after (start_in tells_moves begun) lines
  left_in world is lines end ends = ap (λ end. Some (file_left end)) ends ∙ ap (λ begun. left_after (start_in tells_moves begun) lines) is

  pub front_in : {P : List ℕ → Type 0} (world : ScriptWorld) → Ok world ≡ begun → (lines : List (List ℕ)) → PrintsFrontFrom P (start_in tells_moves (Ok world)) lines → PrintsFrontFrom P (start_in tells_moves begun) lines
  front_in {P} world is lines = subst (λ begun. PrintsFrontFrom P (start_in tells_moves begun) lines) is
