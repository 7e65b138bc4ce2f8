-- A launch, a kill or neither: the laws of Pairs.
use native.Mathlib.Omega.{arith}
use Rattle.step.proofs.Tables.{passed}
use Rattle.step.proofs.Pairs.{launching, killing, launch-room, launched-numbers, killed-numbers, same_numbers, hidden-same}
use Rattle.step.proofs.change_pairs.Goals as goal

pub returns-in_default : goal.returns-in_default
returns-in_default c = λ m s n h l. hidden-same c.args.state.now m s n (rw c.in_default.is at h)

pub pair_of-requires : goal.pair_of-requires
pair_of-requires c =
    let x = launching c.args.state.now c.in-Some.offer c.in-37.is c.requires.0 c.requires.1 c.requires.2 (rw c.in-Some.is at c.requires.3) in record { pair = x.pair; shows = x.shows }

pub launch_pair-requires : goal.launch_pair-requires
launch_pair-requires c =
    let x = launching c.args.state.now c.in-Some.offer c.in-37.is c.requires.0 c.requires.1 c.requires.2 (rw c.in-Some.is at c.requires.3) in
    let e = c.pair_of.ensures x.pair x.shows in
    (passed c.requires.3.stands, launch-room c.args.state.now c.in-Some.offer c.requires.0 c.requires.1 c.requires.2 (rw c.in-Some.is at c.requires.3) x.pair x.is c.requires.4 _ e)

pub returns-in-37 : goal.returns-in-37
returns-in-37 c =
    λ m s n h l.
    let x = launching c.args.state.now c.in-Some.offer c.in-37.is m s n (rw c.in-Some.is at h) in
    launched-numbers c.args.state.now c.in-Some.offer m s n (rw c.in-Some.is at h) x.pair x.is x.good l _ _ (c.pair_of.ensures x.pair x.shows) c.launch_pair.ensures

pub pair_of-requires-in-38 : goal.pair_of-requires-in-38
pair_of-requires-in-38 c =
    let x = killing c.args.state.now c.in-Some.offer c.in-38.is c.requires.0 c.requires.1 c.requires.2 (rw c.in-Some.is at c.requires.3) in record { pair = x.pair; shows = x.shows }

pub kill_pair-requires : goal.kill_pair-requires
kill_pair-requires c = passed c.requires.3.stands

pub returns-in-38 : goal.returns-in-38
returns-in-38 c =
    λ m s n h l.
    let x = killing c.args.state.now c.in-Some.offer c.in-38.is m s n (rw c.in-Some.is at h) in
    killed-numbers c.args.state.now c.in-Some.offer m s n (rw c.in-Some.is at h) x.pair x.is _ _ (c.pair_of-in-38.ensures x.pair x.shows) c.kill_pair.ensures

pub returns-in_default-kind : goal.returns-in_default-kind
returns-in_default-kind c =
    λ m s n h l. same_numbers c.args.state.now c.in-Some.offer m s n (rw c.in-Some.is at h) (λ e. omega (arith, e)) (λ e. omega (arith, e))
