-- What a run printed, from what the server and the last line printed.
use Rattle.std.proofs.Common.{ℕ, List, [], Option, Result, Ok, Err, ◌≢◌, ◌∙◌, refl, sym, subst, inl, inr}
use Rattle.std.specs.Prelude.{◌≡◌, ◌⊎◌, IsErr, IsErrAnd}
use Rattle.std.specs.Io.KnownBytes.{Appends}
use Rattle.std.proofs.KnownBytes.{Appends-trans}
use Rattle.exh_stream.specs.Output.{AppendsBeginning}
use Rattle.exh_stream.specs.OutputLemmas.{AppendsBeginning-after}
use Rattle.exh_script.specs.Served.{PrintsFront, PrintsLines}
use Rattle.exh_script.specs.Text.{Beginning}
use Rattle.exh_everyday.specs.Opened.{OpenedState}
use Rattle.exh_script.specs.declared.serve_fault.ServeFault.{ServeFault}
use Rattle.exh_script.specs.declared.serve_fault.ServeFault.TheVariants.{Memory, Write}
use Rattle.exh_everyday.specs.LastLine.{memory_line}
use Rattle.exh_cli.specs.ScriptRun.{RunPrints}

module _ (begin : Beginning) where
  module _ {P Q : List ℕ → Type 0} (more : (text : List ℕ) → P text → Q text) where
    front_more : (lines : List (List ℕ)) → PrintsFront begin P lines → PrintsFront begin Q lines
    front_more lines h = record { first = h.first; front = h.front; rest = h.rest; split = h.split; text = more _ h.text }

    either_more : (A : Type 0) (lines : List (List ℕ)) → P [] ⊎ (A × PrintsFront begin P lines) → Q [] ⊎ (A × PrintsFront begin Q lines)
    either_more A lines (inl none) = inl (more [] none)
    either_more A lines (inr some) = inr (some.0, front_more lines some.1)

    pub lines_more : {known : Option (List ℕ)} → PrintsLines begin P known → PrintsLines begin Q known
    lines_more h = record { script = h.script; read = h.read; lines = either_more _ _ h.lines }

  -- the last line was cut
  pub line_cut : (old mid new unread : Option (List ℕ)) → PrintsLines begin (Appends old mid) unread → AppendsBeginning mid new memory_line → RunPrints begin old new unread (Err Write)
  line_cut old mid new unread lines line = inr (lines_more (λ text held. AppendsBeginning-after (record { front = text; gone = held; split = refl }) line) lines)

  -- or printed
  pub line_printed : (old mid new unread : Option (List ℕ)) → PrintsLines begin (Appends old mid) unread → Appends mid new memory_line → RunPrints begin old new unread (Err Memory)
  line_printed old mid new unread lines line = lines_more (λ text held. Appends-trans old mid new text memory_line held line) lines

  pub write_fault : (old new unread : Option (List ℕ)) (outcome : Result (Option OpenedState) ServeFault) → IsErr outcome × IsErrAnd outcome (λ fault. fault ≡ Write)
      → RunPrints begin old new unread (Err Write) → RunPrints begin old new unread outcome
  write_fault old new unread (Ok left) is printed = absurd is.1
  write_fault old new unread (Err fault) is printed = subst (λ f. RunPrints begin old new unread (Err f)) (sym is.1) printed

-- want of memory isn't the writer's fault
pub memory_differs : (fault : ServeFault) → fault ≡ Memory → fault ≢ Write
memory_differs fault is = λ same. let never : Memory ≡ Write = sym is ∙ same in cc
