-- The text of lines, line by line.
use Rattle.std.proofs.Common.{◌≡◌, ℕ, List, [], ◌∷◌, ◌++◌, Option, refl, sym, ap, ◌∙◌, subst, append_assoc, append-nil, Result, Ok, Err, IfErr, inl, inr}
use Rattle.std.specs.Prelude.{codes}
use Rattle.exh_stream.specs.Output.{Takes, TakesBeginning}
use Rattle.exh_stream.specs.declared.output.Output.{Output}
use Rattle.exh_stream.specs.OutputLemmas.{AppendsBeginning-from, Takes-then, TakesBeginning-then, TakesBeginning-of_more}
use Rattle.exh_text.specs.LineFault.{line_fault_number}
use Rattle.exh_text.specs.Printing.{printed, refused_text}
use Rattle.exh_text.specs.declared.line_fault.LineFault.{LineFault}
use Rattle.exh_calls.specs.declared.reply.Reply.{Reply}
use Rattle.exh_calls.specs.declared.reply.Reply.TheVariants as replies
use Rattle.exh_load.specs.Load.{AreWholeLines}
use Rattle.exh_load.specs.Loading.{Loading, after_pair_line, line_text, loaded_from, pair_told, pair_reply, parsed_text, put_text, load_text_from}

-- what is printed of a line, where a text is built anew
pub line_is : (loading : Loading) (line cleared built bytes : List ℕ) → cleared ≡ [] → built ≡ cleared ++ line_text loading line → bytes ≡ built → bytes ≡ line_text loading line
line_is loading line cleared built bytes is_cleared is_built is_bytes = is_bytes ∙ is_built ∙ ap (λ front. front ++ line_text loading line) is_cleared

-- what holds of any error
pub IfErr-from : {T E : Type 0} {P : E → Type 0} (result : Result T E) → ((fault : E) → P fault) → IfErr result P
IfErr-from (Ok value) holds = tt
IfErr-from (Err fault) holds = holds fault

-- ---- whole lines

pub lines_then : (one other : List ℕ) → AreWholeLines one → AreWholeLines other → AreWholeLines (one ++ other)
lines_then one other h (inl none) = subst AreWholeLines (sym (ap (λ l. one ++ l) none ∙ append-nil one)) h
lines_then one other h (inr some) = inr (one ++ some.0, ap (λ l. one ++ l) some.1 ∙ sym (append_assoc one some.0 (codes "\n")))

reply_lines : (key : List ℕ) (reply : Reply) → AreWholeLines (put_text key reply)
reply_lines key (replies.Is value) = inl refl
reply_lines key replies.None = inl refl
reply_lines key replies.New = inl refl
reply_lines key (replies.Was value) = inl refl
reply_lines key replies.Swapped = inl refl
reply_lines key (replies.Differs value) = inl refl
reply_lines key replies.Full = inr (codes "full " ++ printed key, sym (append_assoc (codes "full ") (printed key) (codes "\n")))

parsed_lines : (loading : Loading) (parsed : Result (List ℕ × List ℕ) LineFault) → AreWholeLines (parsed_text loading parsed)
parsed_lines loading (Ok pair) = reply_lines pair.0 (pair_reply loading pair.0 pair.1)
parsed_lines loading (Err fault) = inr (refused_text (line_fault_number fault), refl)

line_lines : (loading : Loading) (line : List ℕ) → AreWholeLines (line_text loading line)
unfolding line_text
line_lines loading line = parsed_lines loading (pair_told line)

pub text_lines : (loading : Loading) (lines : List (List ℕ)) → AreWholeLines (load_text_from loading lines)
text_lines loading [] = inl refl
text_lines loading (line ∷ lines) = lines_then (line_text loading line) (load_text_from (after_pair_line loading line) lines) (line_lines loading line) (text_lines (after_pair_line loading line) lines)

-- ---- line by line

-- these lines lead from one loading to another, where the text goes on
pub record LeadTo (first now : Loading) (lines : List (List ℕ)) : Type 0 where
  pub goes_on : (more : List (List ℕ)) → load_text_from first (lines ++ more) ≡ load_text_from first lines ++ load_text_from now more
  pub leaves : (more : List (List ℕ)) → loaded_from first (lines ++ more) ≡ loaded_from now more

pub LeadTo-none : (first : Loading) → LeadTo first first []
LeadTo-none first = record { goes_on = λ more. refl; leaves = λ more. refl }

module _ (first now : Loading) (lines : List (List ℕ)) (lead : LeadTo first now lines) where
  pub text_of_left : (left whole : List (List ℕ)) → whole ≡ lines ++ left → load_text_from first lines ++ load_text_from now left ≡ load_text_from first whole
  text_of_left left whole split = sym (lead.goes_on left) ∙ ap (load_text_from first) (sym split)

  pub loaded_by_all : (whole : List (List ℕ)) → whole ≡ lines ++ [] → now ≡ loaded_from first whole
  loaded_by_all whole split = sym (lead.leaves []) ∙ ap (loaded_from first) (sym split)

  module _ (line : List ℕ) where
    pub text_of_more : load_text_from first (lines ++ line ∷ []) ≡ load_text_from first lines ++ line_text now line
    text_of_more = lead.goes_on (line ∷ []) ∙ ap (λ l. load_text_from first lines ++ l) (append-nil (line_text now line))

    pub LeadTo-more : (next : Loading) → next ≡ after_pair_line now line → LeadTo first next (lines ++ line ∷ [])
    LeadTo-more next is = record {
      goes_on = λ more.
          ap (load_text_from first) (append_assoc lines (line ∷ []) more)
          ∙ lead.goes_on (line ∷ more)
          ∙ ap (λ l. load_text_from first lines ++ (line_text now line ++ load_text_from l more)) (sym is)
          ∙ sym (append_assoc (load_text_from first lines) (line_text now line) (load_text_from next more))
          ∙ ap (λ l. l ++ load_text_from next more) (sym text_of_more);
      leaves = λ more. ap (loaded_from first) (append_assoc lines (line ∷ []) more) ∙ lead.leaves (line ∷ more) ∙ ap (λ l. loaded_from l more) (sym is);
    }

-- the text of the lines left is that of the next one and of those after it
pub text_of_next : (now next : Loading) (lines left : List (List ℕ)) (line : List ℕ) → lines ≡ line ∷ left → next ≡ after_pair_line now line → load_text_from now lines ≡ line_text now line ++ load_text_from next left
text_of_next now next lines left line split is = ap (load_text_from now) split ∙ ap (λ l. line_text now line ++ load_text_from l left) (sym is)

module _ {W : Type 0} (contents : W → Option (List ℕ)) (first now : Output W) (told rest whole : List ℕ) (passed : Takes contents first now told) (text : told ++ rest ≡ whole) where
  -- the text so far is a beginning of the whole
  pub stopped : TakesBeginning contents first now whole
  stopped = let taken : TakesBeginning contents first now told = record { passed = AppendsBeginning-from passed.passed } in subst (TakesBeginning contents first now) text (TakesBeginning-of_more rest taken)

  module _ (new : Output W) (line more bytes : List ℕ) (split : rest ≡ line ++ more) (is : bytes ≡ line) where
    -- the next line is out
    pub line_out : Takes contents now new bytes → Takes contents first new (told ++ line)
    line_out taken = Takes-then passed (subst (Takes contents now new) is taken)

    -- a beginning of it is
    pub line_stopped : TakesBeginning contents now new bytes → TakesBeginning contents first new whole
    line_stopped beginning =
        subst (TakesBeginning contents first new) (append_assoc told line more ∙ ap (λ rest. told ++ rest) (sym split) ∙ text)
        (TakesBeginning-of_more more (TakesBeginning-then passed (subst (TakesBeginning contents now new) is beginning)))
