-- What was gathered, over some calls.
use Rattle.std.proofs.Common.{◌≡◌, ℕ, List, [], ◌++◌, take, drop, sym, ap, ◌∙◌, refl, append-nil, append_assoc}
use Rattle.std.proofs.lemmas.List.{take-append-drop}
use Rattle.file_trait.specs.Streams.{TookSome}
use Rattle.mn_run.specs.Asks.{Passes}

-- nothing was written of it
pub none_passed : (text written : List ℕ) → Passes ⊥ text text written written
none_passed text written = record {
  sent = [];
  lost = [];
  grown = sym (append-nil written);
  parts = sym (append-nil text);
  all = λ none. refl;
}

-- the sink took some of it, and nothing is gathered then
pub some_passed : (GaveUp : Type 0) (text text_now written now : List ℕ) → GaveUp → text_now ≡ [] → TookSome text written now
    → Passes GaveUp text text_now written now
some_passed GaveUp text text_now written now gave_up gone took = record {
  sent = take took.n text;
  lost = drop took.n text;
  grown = took.grown;
  parts = sym (take-append-drop took.n text) ∙ ap (λ xs. take took.n text ++ (xs ++ drop took.n text)) (sym gone);
  all = λ none. absurd (none gave_up);
}

-- nothing of it is lost
pub passes : (GaveUp : Type 0) (text text_now written now : List ℕ) → Passes ⊥ text text_now written now
    → Passes GaveUp text text_now written now
passes GaveUp text text_now written now h = record {
  sent = h.sent;
  lost = h.lost;
  grown = h.grown;
  parts = h.parts;
  all = λ none. h.all (λ never. never);
}

-- what came before lost nothing
pub passes_on : (GaveUp : Type 0) (text mid text_now written between now : List ℕ) → Passes ⊥ text mid written between
    → Passes GaveUp mid text_now between now → Passes GaveUp text text_now written now
passes_on GaveUp text mid text_now written between now h k = record {
  sent = h.sent ++ k.sent;
  lost = k.lost;
  grown = k.grown ∙ ap (λ xs. xs ++ k.sent) h.grown ∙ append_assoc written h.sent k.sent;
  parts =
      h.parts ∙ ap (λ xs. h.sent ++ (mid ++ xs)) (h.all (λ never. never))
      ∙ ap (λ xs. h.sent ++ xs) (append-nil mid ∙ k.parts) ∙ sym (append_assoc h.sent k.sent (text_now ++ k.lost));
  all = k.all;
}

-- nothing is gathered then, whoever gave up
pub given_up : (GaveUp : Type 0) (text text_now written now : List ℕ) → text_now ≡ [] → Passes GaveUp text text_now written now
    → Passes (Unit {0}) text [] written now
given_up GaveUp text text_now written now gone h = record {
  sent = h.sent;
  lost = h.lost;
  grown = h.grown;
  parts = h.parts ∙ ap (λ xs. h.sent ++ (xs ++ h.lost)) gone;
  all = λ none. absurd (none tt);
}
