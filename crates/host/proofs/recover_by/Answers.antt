use lib.Seq.{length-take-le}
use Rattle.std.proofs.Common.{rules, sym}
use Rattle.host.proofs.Front.{recovered_by, refused_by, sizes}
use Rattle.host.proofs.recover_by.Goals as goal

pub returns-in_err-recover : goal.returns-in_err-recover
returns-in_err-recover c =
    let e = refused_by _ _ _ _ c.args.kept.now _ _ c.read_numbers.ensures c.requires _ c.in_err-recover.ensures.refusal in
    record { refusal = search (rules, e.0); kept = e.1 }

pub slice_bounds-write_numbers-end-2 : goal.slice_bounds-write_numbers-end-2
slice_bounds-write_numbers-end-2 c = sym (length-take-le _ _ (rw c.recover.auto.kept (sizes _ _ _ _ _ c.in_ok-recover.ensures.refusal).2))

pub returns : goal.returns
returns c =
    let o = c.in_ok-recover.ensures in
    let l = (sizes _ _ _ _ _ o.refusal).2 in
    let e = recovered_by _ _ _ _ c.args.kept.now _ _ c.read_numbers.ensures c.requires _ _ o.refusal o.kept c.write_numbers.ensures (rw c.recover.auto.kept l) in
    record { refusal = e.0; kept = e.1 }
