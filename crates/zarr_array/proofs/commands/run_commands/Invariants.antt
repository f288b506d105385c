use Rattle.std.proofs.Common.{◌≡◌, ◌≤◌, length, take, map, Ok, IfSome, vec_len, vec_capacity}
use Rattle.zarrs_codec_traits.specs.Prelude.{SameContent, options_of}
use Rattle.zarr_array.specs.Access.{described, IsInHand}
use Rattle.zarr_array_boxes.specs.Command.{command_of, answer_of, AreReads}
use Rattle.zarr_array.specs.Costs.{OnlyReads, CostsOn}
use Rattle.zarr_array.specs.Runs.{RunsOn}
use Rattle.zarr_array.proofs.commands.run_commands.Given as goal

abbrev pub invariant-loop-number : goal.invariant-loop-number
invariant-loop-number g l = record {
  so_far : RunsOn (described (g.C.ChunkAccess.seen l.array)) (options_of l.options)
      (take l.number (map command_of l.commands))
      (g.S.Store.shown l.fn.store) (g.S.Store.shown l.store) (Ok (map answer_of l.replies.items));
  costs : CostsOn (g.C.ChunkAccess.seen l.array).costs (described (g.C.ChunkAccess.seen l.array)) (options_of l.options)
      (take l.number (map command_of l.commands))
      (g.S.Store.shown l.fn.store) (g.S.Store.shown l.store) (Ok (map answer_of l.replies.items));
  same : OnlyReads (described (g.C.ChunkAccess.seen l.array)) (take l.number (map command_of l.commands)) →
      SameContent (g.S.Store.shown l.fn.store) (g.S.Store.shown l.store);
  kept : AreReads (map command_of l.commands) → g.S.Store.kept l.fn.store l.store;
  long : vec_len l.replies ≡ l.number;
  room : length l.commands ≤ vec_capacity l.replies;
  hand : IfSome l.hand (IsInHand (g.C.ChunkAccess.serves l.array));
}
