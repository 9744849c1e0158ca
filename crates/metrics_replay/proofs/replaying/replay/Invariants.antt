use Rattle.std.proofs.Common.{◌≡◌, take, vec_len, vec_capacity, length, ◌≤◌}
use Rattle.metrics_replay.specs.Replaying.{registers_from}
use Rattle.metrics_replay.proofs.ReplayLemmas.{Replayed}
use Rattle.metrics_replay.proofs.replaying.replay.Given as goal

abbrev pub invariant-loop-i : goal.invariant-loop-i
invariant-loop-i g l = record {
  room : length l.calls ≤ vec_capacity l.answers;
  len : vec_len l.answers ≡ l.i;
  register_room : length l.calls ≤ vec_capacity l.registers;
  register_len : vec_len l.registers ≤ l.i;
  places : l.registers.items ≡ registers_from 0 (take l.i l.calls);
  replayed : Replayed (g.R.Recorder.meaning l.initial.on) (g.R.Recorder.meaning l.on) (take l.i l.calls) l.answers.items;
}
