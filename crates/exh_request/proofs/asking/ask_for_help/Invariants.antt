use Rattle.std.proofs.Common.{◌≡◌, drop, map}
use Rattle.exh_request.specs.Request.{ask_for_help}
use Rattle.exh_request.proofs.asking.ask_for_help.Given as goal

-- no word so far asks for help, or ends the options
abbrev pub invariant-loop-word : goal.invariant-loop-word
invariant-loop-word l = ask_for_help (map (λ word. word.items) l.words) ≡ ask_for_help (map (λ word. word.items) (drop l.word-index l.words))
