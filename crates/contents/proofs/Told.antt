-- A test that is one of the computed sets tells what the set was declared to be.
use Rattle.std.proofs.Common.{◌≡◌, ℕ, Bool, true, false, ◌↔◌, sym, ◌∙◌}
use mathlib.Core.Bool.{false≢true}
use Rattle.contents.specs.Contents.{Content}
use Rattle.contents.specs.Sets.{Nullable, Opens, Closes, Follows, Tells, nullable, opens, closes, follows}
use Rattle.contents.proofs.Meanings.{sets_right}

tells : (b t : Bool) (P : Type 0) → b ≡ t → ((t ≡ true) ↔ P) → Tells b P
tells true t P e f = f.0 (sym e)
tells false t P e f = λ p. false≢true (e ∙ f.1 p)

pub told_nullable : (c : Content ℕ) (b : Bool) → b ≡ nullable c → Tells b (Nullable c)
told_nullable c b e = tells b (nullable c) (Nullable c) e (sets_right c).0

pub told_opens : (c : Content ℕ) (p : ℕ) (b : Bool) → b ≡ opens c p → Tells b (Opens c p)
told_opens c p b e = tells b (opens c p) (Opens c p) e ((sets_right c).1 p)

pub told_closes : (c : Content ℕ) (p : ℕ) (b : Bool) → b ≡ closes c p → Tells b (Closes c p)
told_closes c p b e = tells b (closes c p) (Closes c p) e ((sets_right c).2 p)

pub told_follows : (c : Content ℕ) (p q : ℕ) (b : Bool) → b ≡ follows c p q → Tells b (Follows c p q)
told_follows c p q b e = tells b (follows c p q) (Follows c p q) e ((sets_right c).3 p q)
