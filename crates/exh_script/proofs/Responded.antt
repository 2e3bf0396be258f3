-- The text of a script, line by line.
use Rattle.std.proofs.Common.{◌≡◌, ℕ, List, [], ◌∷◌, ◌++◌, Bool, Option, Result, Ok, Err, refl, sym, ap, ◌∙◌, subst, append_assoc, append-nil}
use Rattle.exh_stream.specs.Output.{Takes, TakesBeginning}
use Rattle.exh_line.specs.RefusalText.{refusal_text}
use Rattle.exh_script.specs.Replies.{world_left}
use Rattle.exh_script.specs.Text.{ScriptWorld, line_response, response_text, after_line, Beginning, Start, text_from, start_of, text_after, text_of_lines}
use Rattle.exh_line.specs.declared.refusal.Refusal.{Refusal}
use Rattle.exh_stream.specs.declared.output.Output.{Output}
use Rattle.exh_stream.specs.OutputLemmas.{AppendsBeginning-from, Takes-then, TakesBeginning-then, TakesBeginning-of_more}

module _ {W : Type 0} (contents : W → Option (List ℕ)) (first now : Output W) (told rest whole : List ℕ) (passed : Takes contents first now told) (text : told ++ rest ≡ whole) where
  -- the text so far is a beginning of the whole
  pub stopped : TakesBeginning contents first now whole
  stopped = let taken : TakesBeginning contents first now told = record { passed = AppendsBeginning-from passed.passed } in subst (TakesBeginning contents first now) text (TakesBeginning-of_more rest taken)

  -- and so is what goes out of the next line
  pub stopped_in : (new : Output W) (line more : List ℕ) → rest ≡ line ++ more → TakesBeginning contents now new line → TakesBeginning contents first new whole
  stopped_in new line more split beginning =
      subst (TakesBeginning contents first new) (append_assoc told line more ∙ ap (λ rest. told ++ rest) (sym split) ∙ text) (TakesBeginning-of_more more (TakesBeginning-then passed beginning))

-- what is printed of a line, where a text is built anew
pub line_is : (tells_moves telling : Bool) (world : ScriptWorld) (line cleared built bytes : List ℕ) → telling ≡ tells_moves → cleared ≡ []
    → built ≡ cleared ++ response_text (line_response telling world line) → bytes ≡ built → bytes ≡ response_text (line_response tells_moves world line)
line_is tells_moves telling world line cleared built bytes same is_cleared is_built is_bytes =
    is_bytes ∙ is_built ∙ ap (λ front. front ++ response_text (line_response telling world line)) is_cleared ∙ ap (λ tells. response_text (line_response tells world line)) same

-- the text of the lines left is that of the next one and of those after it
pub text_of_next : (tells_moves : Bool) (world next : ScriptWorld) (lines left : List (List ℕ)) (line : List ℕ) → lines ≡ line ∷ left → next ≡ after_line world line
    → text_from tells_moves world lines ≡ response_text (line_response tells_moves world line) ++ text_from tells_moves next left
text_of_next tells_moves world next lines left line split is_next =
    ap (text_from tells_moves world) split ∙ ap (λ world'. response_text (line_response tells_moves world line) ++ text_from tells_moves world' left) (sym is_next)

module _ {W : Type 0} (contents : W → Option (List ℕ)) (first now new : Output W) (told rest whole line more bytes : List ℕ)
    (passed : Takes contents first now told) (text : told ++ rest ≡ whole) (split : rest ≡ line ++ more) (is : bytes ≡ line) where
  -- the line is out, with what was told before it
  pub line_out : Takes contents now new bytes → Takes contents first new (told ++ line)
  line_out taken = Takes-then passed (subst (Takes contents now new) is taken)

  pub line_told : told ++ line ++ more ≡ whole
  line_told = append_assoc told line more ∙ ap (λ rest. told ++ rest) (sym split) ∙ text

  -- a beginning of it is out
  pub line_stopped : TakesBeginning contents now new bytes → TakesBeginning contents first new whole
  line_stopped beginning = stopped_in contents first now told rest whole passed text new line more split (subst (TakesBeginning contents now new) is beginning)

-- ---- lines that were answered

-- these lines lead from one world to another, where the text goes on and the run
pub record LeadTo (tells_moves : Bool) (new world : ScriptWorld) (lines : List (List ℕ)) : Type 0 where
  goes_on : (more : List (List ℕ)) → text_from tells_moves new (lines ++ more) ≡ text_from tells_moves new lines ++ text_from tells_moves world more
  leaves : (more : List (List ℕ)) → world_left new (lines ++ more) ≡ world_left world more

pub LeadTo-none : (tells_moves : Bool) (new : ScriptWorld) → LeadTo tells_moves new new []
LeadTo-none tells_moves new = record { goes_on = λ more. refl; leaves = λ more. refl }

module _ (tells_moves : Bool) (new world : ScriptWorld) (lines : List (List ℕ)) (lead : LeadTo tells_moves new world lines) where
  -- what is printed of these lines and of those left is what is printed of all
  pub text_of_left : (left whole : List (List ℕ)) → whole ≡ lines ++ left → text_from tells_moves new lines ++ text_from tells_moves world left ≡ text_from tells_moves new whole
  text_of_left left whole split = sym (lead.goes_on left) ∙ ap (text_from tells_moves new) (sym split)

  -- where no line is left, this is the world that they leave
  pub world_of_all : (left whole : List (List ℕ)) → whole ≡ lines ++ left → left ≡ [] → world ≡ world_left new whole
  world_of_all left whole split none = sym (lead.leaves []) ∙ ap (λ more. world_left new (lines ++ more)) (sym none) ∙ ap (world_left new) (sym split)

  module _ (line : List ℕ) where
    pub text_of_more : text_from tells_moves new (lines ++ line ∷ []) ≡ text_from tells_moves new lines ++ response_text (line_response tells_moves world line)
    text_of_more = lead.goes_on (line ∷ []) ∙ ap (λ l. text_from tells_moves new lines ++ l) (append-nil (response_text (line_response tells_moves world line)))

    -- one line more
    pub LeadTo-more : (next : ScriptWorld) → next ≡ after_line world line → LeadTo tells_moves new next (lines ++ line ∷ [])
    LeadTo-more next is = record {
      goes_on = λ more.
          ap (text_from tells_moves new) (append_assoc lines (line ∷ []) more)
          ∙ lead.goes_on (line ∷ more)
          ∙ ap (λ world'. text_from tells_moves new lines ++ (response_text (line_response tells_moves world line) ++ text_from tells_moves world' more)) (sym is)
          ∙ sym (append_assoc (text_from tells_moves new lines) (response_text (line_response tells_moves world line)) (text_from tells_moves next more))
          ∙ ap (λ l. l ++ text_from tells_moves next more) (sym text_of_more);
      leaves = λ more.
          ap (world_left new) (append_assoc lines (line ∷ []) more)
          ∙ lead.leaves (line ∷ more)
          ∙ ap (λ world'. world_left world' more) (sym is);
    }

-- ---- the text of a beginning of the lines begins the text

pub lines_begin : (tells_moves : Bool) (world : ScriptWorld) (front rest : List (List ℕ)) → (more : List ℕ) × (text_from tells_moves world (front ++ rest) ≡ text_from tells_moves world front ++ more)
lines_begin tells_moves world [] rest = (text_from tells_moves world rest, refl)
lines_begin tells_moves world (line ∷ front) rest =
    let left = lines_begin tells_moves (after_line world line) front rest in
    (left.0, ap (λ l. response_text (line_response tells_moves world line) ++ l) left.1 ∙ sym (append_assoc (response_text (line_response tells_moves world line)) (text_from tells_moves (after_line world line) front) left.0))

start_begins : (read : Result Start Refusal) (front rest : List (List ℕ)) → (more : List ℕ) × (text_after read (front ++ rest) ≡ text_after read front ++ more)
start_begins (Ok start) front rest = lines_begin start.tells_moves start.world front rest
start_begins (Err refusal) front rest = ([], sym (append-nil (refusal_text refusal)))

pub front_begins : (begin : Beginning) (first : List ℕ) (front rest : List (List ℕ)) → (more : List ℕ) × (text_of_lines begin (first ∷ (front ++ rest)) ≡ text_of_lines begin (first ∷ front) ++ more)
front_begins begin first front rest = start_begins (start_of begin first) front rest
