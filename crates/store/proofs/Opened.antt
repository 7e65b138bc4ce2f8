-- The rows of the start, both counts before them and zeros after, are the numbers of the opened state. From the laws of rows and of parts.
use mathlib.Core.Path.{◌≡◌, ap, ap₂, subst, ◌∙◌}
use mathlib.Core.List.{List, ◌∷◌, ◌++◌}
use Prim.Native.Nat.{ℕ, ◌+◌, ◌-◌, ◌≤◌}
use native.Mathlib.Omega.{arith}
use lib.IntN.{ℤ, pos}
use lib.ListN.{length, take, drop, replicate}
use lib.Seq.{sets-eq}
use borrow.Rule.Slice.PartMut.{put_mid}
use Rattle.model.specs.Resolved
use Rattle.model.specs.Opening.{process_limit}
use Rattle.machine.specs.Offer.{Process}
use Rattle.machine.specs.State.{process_room, pair_room, state_length, padded, flatten, process_numbers, state_numbers}
use Rattle.machine.specs.Machine.{start_processes, opened_state}
use Rattle.machine.proofs.Stays.{start-count}
use Rattle.eval.specs.Next.{Rows}
use Rattle.eval.proofs.Rows.{rows-length}
use Rattle.store.specs.Start.{ItemsFit, Opens}
use Rattle.std.proofs.lemmas.List.{take-replicate, drop-replicate}
use Rattle.store.proofs.Nodes.{start-few}

module _ (t known : List ℕ) (root variables definitions : ℕ) (m : Resolved.Model) (o : Opens t known root variables definitions m) where
  abbrev ps : List Process
  ps = start_processes m m.starts

  few : length ps ≤ process_limit
  few = omega (arith, o.few, start-count m m.starts)

  pub opens-fit : ItemsFit t known root variables (root - variables - definitions) process_room 0
  opens-fit = record {
    model = m;
    starts = m.starts;
    holds = o.starts;
    items = record { good = o.good; defines = o.defines; scoped = o.scoped; fit = o.good.starts; fits = omega (arith, few) };
  }

  -- 01, Open: as many processes as the header says
  pub opens-count : (f g : List ℤ) (n : ℕ) → Rows f 0 ps g n → n ≡ length ps
  opens-count f g n r = omega (arith, r.next)

  pub opens-few : (f g : List ℤ) (n : ℕ) → Rows f 0 ps g n → n ≤ process_limit
  opens-few f g n r = omega (arith, opens-count f g n r, few)

  -- rows over zeros
  rows_are : (g : List ℤ) (n : ℕ) → Rows (replicate process_room (pos 0)) 0 ps g n → g ≡ padded process_room (flatten process_numbers ps)
  unfolding padded
  rows_are g n r =
      let f = flatten process_numbers ps in
      let l : length f ≤ process_room = omega (arith, rows-length ps (start-few m o.good m.starts o.good.starts), few) in
      let e : 0 + length f ≡ length f = omega arith in
      r.numbers ∙ sets-eq f (replicate process_room (pos 0)) 0 (omega arith)
      ∙ ap (λ (i : ℕ). f ++ drop i (replicate process_room (pos 0))) e
      ∙ ap (λ (xs : List ℤ). f ++ xs) (drop-replicate (length f) process_room (pos 0))

  pub opens-state : (zs g ys : List ℤ) (n : ℕ) → zs ≡ replicate state_length (pos 0) → Rows (take process_room (drop 2 zs)) 0 ps g n
      → ys ≡ pos n ∷ pos 0 ∷ drop 2 (put_mid 2 process_room zs g) → ys ≡ state_numbers (opened_state m)
  unfolding state_numbers opened_state padded flatten
  opens-state zs g ys n z r e =
      let k : ℕ = process_room + pair_room in
      let part : take process_room (drop 2 zs) ≡ replicate process_room (pos 0) = ap (λ (xs : List ℤ). take process_room (drop 2 xs)) z ∙ take-replicate process_room k (pos 0) (omega arith) in
      let rest : drop process_room (drop 2 zs) ≡ replicate pair_room (pos 0) = ap (λ (xs : List ℤ). drop process_room (drop 2 xs)) z ∙ drop-replicate process_room k (pos 0) in
      let q = rows_are g n (subst (λ (xs : List ℤ). Rows xs 0 ps g n) part r) in
      e ∙ ap (λ (xs : List ℤ). pos n ∷ pos 0 ∷ drop 2 (take 2 xs ++ (g ++ drop process_room (drop 2 zs)))) z
      ∙ ap₂ (λ (i : ℕ) (xs : List ℤ). pos i ∷ pos 0 ∷ (xs ++ drop process_room (drop 2 zs))) (opens-count (take process_room (drop 2 zs)) g n r) q
      ∙ ap (λ (xs : List ℤ). pos (length ps) ∷ pos 0 ∷ (padded process_room (flatten process_numbers ps) ++ xs)) rest
