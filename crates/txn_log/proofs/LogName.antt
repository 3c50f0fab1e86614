-- The names of the log are files' names, apart from each other and from that of its draft.
use Rattle.std.proofs.Common.{◌≡◌, ◌≢◌, ℕ, ◌≤◌, inl, inr, refl, lit<, lit≤, ap, length, arith}
use Rattle.std.proofs.lemmas.List.Elements.{All-from_recursion}
use Rattle.file_trait.specs.Name.{IsName, IsNameByte}
use Rattle.disk_logs.specs.Logs.{draft_name}
use Rattle.txn_log.specs.Logs.{latest, previous}

capital : (byte : ℕ) → 64 ≤ byte → byte ≤ 90 → IsNameByte byte
capital byte low high = inr (inl (low, high))

pub latest_name : IsName latest
latest_name = record {
  some = lit< tt;
  short = lit≤ tt;
  bytes = All-from_recursion IsNameByte latest (
    capital 76 (lit≤ tt) (lit≤ tt),
    (
      capital 65 (lit≤ tt) (lit≤ tt),
      (
        capital 84 (lit≤ tt) (lit≤ tt),
        (
          capital 69 (lit≤ tt) (lit≤ tt),
          (
            capital 83 (lit≤ tt) (lit≤ tt),
            (
              capital 84 (lit≤ tt) (lit≤ tt),
              (
                inr (inr (inr (inr refl))),
                (capital 76 (lit≤ tt) (lit≤ tt), (capital 79 (lit≤ tt) (lit≤ tt), (capital 71 (lit≤ tt) (lit≤ tt), tt))),
              ),
            ),
          ),
        ),
      ),
    ),
  );
}

pub previous_name : IsName previous
previous_name = record {
  some = lit< tt;
  short = lit≤ tt;
  bytes = All-from_recursion IsNameByte previous (
    capital 80 (lit≤ tt) (lit≤ tt),
    (
      capital 82 (lit≤ tt) (lit≤ tt),
      (
        capital 69 (lit≤ tt) (lit≤ tt),
        (
          capital 86 (lit≤ tt) (lit≤ tt),
          (
            capital 73 (lit≤ tt) (lit≤ tt),
            (
              capital 79 (lit≤ tt) (lit≤ tt),
              (
                capital 85 (lit≤ tt) (lit≤ tt),
                (
                  capital 83 (lit≤ tt) (lit≤ tt),
                  (
                    inr (inr (inr (inr refl))),
                    (capital 76 (lit≤ tt) (lit≤ tt), (capital 79 (lit≤ tt) (lit≤ tt), (capital 71 (lit≤ tt) (lit≤ tt), tt))),
                  ),
                ),
              ),
            ),
          ),
        ),
      ),
    ),
  );
}

pub latest_no_draft : latest ≢ draft_name latest
latest_no_draft is = let e : 10 ≡ 13 = ap length is in absurd (cc)

pub latest_no_previous : latest ≢ previous
latest_no_previous is = let e : length latest ≡ length previous = ap length is in absurd (omega (arith, e))

pub previous_no_draft : previous ≢ draft_name latest
previous_no_draft is = let e : length previous ≡ length (draft_name latest) = ap length is in absurd (omega (arith, e))
