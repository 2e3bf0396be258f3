-- Requests in flight are those of the last accepted begins of their names, which weren't answered since.
use Rattle.std.proofs.Common.{◌≡◌, ℕ, List, [], ◌∷◌, ◌++◌, Bool, true, false, cond, eqb, Option, Some, None, IsFalse, refl, sym, ap, ◌∙◌, subst, append_assoc}
use Rattle.std.specs.Prelude.{nat_eq}
use Rattle.std.proofs.lemmas.Bool.{eqb-true}
use Rattle.std.proofs.lemmas.List.Elements.{All-nil, All-cons, All-append}
use Rattle.exh_calls.specs.declared.call.Call.{Call}
use Rattle.exh_calls.specs.declared.reply.Reply.{Reply}
use Rattle.exh_world.specs.InFlight.{Requests, request_named, without}
use Rattle.exh_world.specs.declared.request.Request.{Request}
use Rattle.exh_script.specs.Replies.{Turn, is_about, IsBegunLast}
use Rattle.exh_script.specs.Text.{ScriptWorld, Response, Said}
use Rattle.exh_line.specs.declared.answer.Answer.TheVariants.{Replied}
use Rattle.exh_line.specs.declared.moves.Moves.{Moves}
use Rattle.indexmap.specs.IndexMap.{insert_entry}
use Rattle.exh_script.proofs.RequestLemmas.{AreNamedOnce, once_after, named_after, once_kept, named_without}

pub record AreBegunLast (turns : List Turn) (requests : Requests) : Type 0 where
  pub once : AreNamedOnce requests
  pub begun : (name : ℕ) (request : Request) → request_named name requests ≡ Some request → IsBegunLast turns name request.client request.call

-- a turn that isn't about the name changes nothing
pub later : {turns : List Turn} {name client : ℕ} {call : Call} (turn : Turn) → IsFalse (is_about name turn.response) → IsBegunLast turns name client call → IsBegunLast (turns ++ turn ∷ []) name client call
later {turns} {name} turn other is = record {
  front = is.front;
  begin = is.begin;
  since = is.since ++ turn ∷ [];
  split = ap (λ turns. turns ++ turn ∷ []) is.split ∙ append_assoc is.front (is.begin ∷ is.since) (turn ∷ []);
  copy = is.copy;
  line = is.line;
  ward = is.ward;
  page = is.page;
  accepted = is.accepted;
  unanswered = let P : Turn → Type 0 = λ turn. IsFalse (is_about name turn.response) in All-append P is.since (turn ∷ []) is.unanswered (All-cons P turn [] other (All-nil P));
}

abbrev pub turn_of : List ℕ → Response → Turn
turn_of line response = record { line = line; response = response }

module _ (world : ScriptWorld) (before : List Turn) (all : AreBegunLast before world.in_flight) (line : List ℕ) where
  -- after a turn with this response
  abbrev pub AreStill : Response → Requests → Type 0
  AreStill response requests = AreBegunLast (before ++ turn_of line response ∷ []) requests

  -- a response about no name
  pub quiet : (response : Response) → ((name : ℕ) → IsFalse (is_about name response)) → AreStill response world.in_flight
  quiet response none = record { once = all.once; begun = λ name request found. later (turn_of line response) (none name) (all.begun name request found) }

  written_at : (name : ℕ) (written : Request) (response : Response) → IsBegunLast (before ++ turn_of line response ∷ []) name written.client written.call
      → (other : ℕ) (request : Request) (same : Bool) → eqb name other ≡ same → (eqb name other ≡ false → IsFalse (is_about other response))
      → cond same (Some written) (request_named other world.in_flight) ≡ Some request → IsBegunLast (before ++ turn_of line response ∷ []) other request.client request.call
  written_at name written response own other request true is silent found =
      let own_name : name ≡ other = eqb-true name other is in
      let own_request : written ≡ request = cc in
      let P : ℕ → Type 0 = λ n. IsBegunLast (before ++ turn_of line response ∷ []) n request.client request.call in
      let Q : Request → Type 0 = λ r. IsBegunLast (before ++ turn_of line response ∷ []) name r.client r.call in
      subst P own_name (subst Q own_request own)
  written_at name written response own other request false is silent found = later (turn_of line response) (silent is) (all.begun other request found)

  -- the request of a name written
  pub written : (name : ℕ) (request : Request) (response : Response) → IsBegunLast (before ++ turn_of line response ∷ []) name request.client request.call
      → ((other : ℕ) → eqb name other ≡ false → IsFalse (is_about other response)) → AreStill response (insert_entry nat_eq world.in_flight name request)
  written name request response own silent = record {
    once = once_after name request world.in_flight all.once;
    begun = λ other found_request found.
        written_at name request response own other found_request (eqb name other) refl (silent other) (sym (named_after name request other world.in_flight) ∙ found);
  }

  answered_at : (name : ℕ) (reply : Reply) (moves : Option Moves) (other : ℕ) (request : Request) (same : Bool) → eqb name other ≡ same → cond same None (request_named other world.in_flight) ≡ Some request
      → IsBegunLast (before ++ turn_of line (Said (Replied name reply moves)) ∷ []) other request.client request.call
  answered_at name reply moves other request true is found = cc
  answered_at name reply moves other request false is found = later (turn_of line (Said (Replied name reply moves))) is (all.begun other request found)

  pub answered : (name : ℕ) (reply : Reply) (moves : Option Moves) → AreStill (Said (Replied name reply moves)) (without name world.in_flight)
  answered name reply moves = record {
    once = once_kept name world.in_flight all.once;
    begun = λ other request found. answered_at name reply moves other request (eqb name other) refl (sym (named_without name other world.in_flight all.once) ∙ found);
  }
