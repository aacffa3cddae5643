use Rattle.std.proofs.Common.{◌≤◌, arith, sym, ◌∙◌, subst, [], None, length, take}
use Rattle.std.specs.Prelude.{IsTrue}
use Rattle.std.specs.FinMap.Entries.{is_sorted}
use Rattle.ls_board.specs.declared.world.World.{World}
use Rattle.ls_board.specs.Order.{byte_cmp}
use Rattle.ls_board.specs.Images.{Leaves}
use Rattle.ls_board.specs.Runs.{ImageAt}
use Rattle.ls_memboard.specs.Cuts.{until, held, image_of, picker_of}
use Rattle.ls_memboard.specs.Replay.{replay, past_from}
use Rattle.ls_memboard.proofs.BaseLemmas.{start_synced, synced_run, fits_until}
use Rattle.ls_memboard.proofs.CutLemmas.{cut_is, cut_leaves, cut_left}
use Rattle.ls_memboard.proofs.ReplayLemmas.{length-past_from}
use Rattle.ls_memboard.proofs.memory.MemBoard.cut.Goals as goal

pub world_after-requires : goal.world_after-requires
world_after-requires c =
    let s = c.args.self.now in
    omega (arith, c.requires, length-past_from s.pool.items s.start s.log.items [])

pub synced-requires : goal.synced-requires
synced-requires c =
    let s = c.args.self.now in
    omega (arith, c.requires, length-past_from s.pool.items s.start s.log.items [])

pub returns-clause-exact : goal.returns-clause-exact
returns-clause-exact c =
    let s = c.args.self.now in
    let few : c.args.moment ≤ length s.log.items = omega (arith, c.requires, length-past_from s.pool.items s.start s.log.items []) in
    (λ i. record c.in_ok-world.world { files = c.in_ok-files.ensures.files i; touched = c.new.ensures.empty i })
    ∙ (λ i. image_of (held (c.in_ok-synced.ensures.files i) s.start) (c.in_ok-world.ensures.same i) (c.of.ensures.same i))
    ∙ cut_is s.pool.items s.start s.log.items c.args.moment (picker_of c.args.pick) few

pub returns-clause-left : goal.returns-clause-left
returns-clause-left c =
    let s = c.args.self.now in
    let few : c.args.moment ≤ length s.log.items = omega (arith, c.requires, length-past_from s.pool.items s.start s.log.items []) in
    let met = replay s.pool.items s.start (take c.args.moment s.log.items) in
    let files = subst (λ (v : World). IsTrue (is_sorted byte_cmp v.files)) c.in_ok-world.ensures.same c.len.ensures.table.sorted in
    let touched = subst (λ (v : World). IsTrue (is_sorted byte_cmp v.touched)) c.in_ok-world.ensures.same c.len-2.ensures.table.sorted in
    let synced = synced_run s.pool.items s.start s.start None (take c.args.moment s.log.items) (start_synced s.start) (fits_until s.pool.items s.start s.log.items c.args.moment s.in_step.fits) in
    subst (Leaves (until (past_from s.pool.items s.start s.log.items []) (replay s.pool.items s.start s.log.items) c.args.moment).0)
    (sym ((λ i. record c.in_ok-world.world { files = c.in_ok-files.ensures.files i; touched = c.new.ensures.empty i })
    ∙ (λ i. image_of (held (c.in_ok-synced.ensures.files i) s.start) (c.in_ok-world.ensures.same i) (c.of.ensures.same i))))
    (cut_leaves s.pool.items s.start s.log.items c.args.moment (picker_of c.args.pick) few files touched synced)

pub returns-clause-allowed : goal.returns-clause-allowed
returns-clause-allowed c =
    let s = c.args.self.now in
    let few : c.args.moment ≤ length s.log.items = omega (arith, c.requires, length-past_from s.pool.items s.start s.log.items []) in
    let met = replay s.pool.items s.start (take c.args.moment s.log.items) in
    let files = subst (λ (v : World). IsTrue (is_sorted byte_cmp v.files)) c.in_ok-world.ensures.same c.len.ensures.table.sorted in
    let touched = subst (λ (v : World). IsTrue (is_sorted byte_cmp v.touched)) c.in_ok-world.ensures.same c.len-2.ensures.table.sorted in
    let synced = synced_run s.pool.items s.start s.start None (take c.args.moment s.log.items) (start_synced s.start) (fits_until s.pool.items s.start s.log.items c.args.moment s.in_step.fits) in
    subst (ImageAt (past_from s.pool.items s.start s.log.items []) (replay s.pool.items s.start s.log.items) c.args.moment)
    (sym ((λ i. record c.in_ok-world.world { files = c.in_ok-files.ensures.files i; touched = c.new.ensures.empty i })
    ∙ (λ i. image_of (held (c.in_ok-synced.ensures.files i) s.start) (c.in_ok-world.ensures.same i) (c.of.ensures.same i))))
    (cut_left s.pool.items s.start s.log.items c.args.moment (picker_of c.args.pick) few files touched synced)
