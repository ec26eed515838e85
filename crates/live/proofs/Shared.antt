-- Refusal 9 from a list of counts is the netlist's; where it does not apply, every gate has at most one reader. Assumes nothing.
use Prim.Native.Nat.{ℕ, ◌+◌}
use mathlib.Core.List.{List, []}
use mathlib.Core.Path.{◌≡◌, sym, ap₂, fun_ext, ◌∙◌}
use native.Mathlib.Omega.{arith}
use lib.Dec.{leb}
use lib.ListN.{length, get_or}
use borrow.Author.Tests.{leb-true}
use Rattle.refusal.specs.Judgement.{Fine}
use Rattle.refusal.proofs.Laws.{unless-fine, lowest-fine, Only, NotRule, only-unless, only-lowest}
use Rattle.netlist.specs.Netlist.{Netlist}
use Rattle.netlist.specs.Live.{readers, SingleReaders}
use Rattle.area.specs.Layout.{inputs, gates}
use Rattle.area.specs.Net.{net_of}
use Rattle.area.proofs.Net.{gate_count, same-readers}
use Rattle.live.specs.Shared.{gate_shared, shared_by, shared_judgement}
use Rattle.refusal.specs.declared.Cause.TheVariants.{SharedGate}

-- who reads whom is in the pins and outputs alone
pub shared_same : (ws ks cs ls ds : List ℕ) → shared_judgement (net_of ws ks cs) ≡ shared_judgement (net_of ws ls ds)
unfolding shared_judgement
shared_same ws ks cs ls ds =
    ap₂ (λ (count : ℕ → ℕ) (gates : ℕ). shared_by count (inputs ws) gates)
    (fun_ext (same-readers ws ks cs ls ds))
    (gate_count ws ks cs ∙ sym (gate_count ws ls ds))

-- the counts' refusal is the netlist's, whatever the kinds and chances are
pub shared-are : (ws xs : List ℕ) → ((s : ℕ) → get_or xs s 0 ≡ readers (net_of ws [] []) s) → (kinds chances : List ℕ)
    → shared_by (λ s. get_or xs s 0) (inputs ws) (gates ws) ≡ shared_judgement (net_of ws kinds chances)
unfolding shared_judgement
shared-are ws xs counted kinds chances =
    ap₂ (λ (count : ℕ → ℕ) (gates : ℕ). shared_by count (inputs ws) gates) (fun_ext counted) (sym (gate_count ws [] []))
    ∙ shared_same ws [] [] kinds chances

pub shared-single : (net : Netlist) → shared_judgement net ≡ Fine → SingleReaders net
unfolding shared_judgement SingleReaders
shared-single net e j l =
    leb-true (readers net (net.inputs + j)) 1
    (unless-fine _ SharedGate j (lowest-fine (gate_shared (readers net) net.inputs) (length net.gates) j l e))

-- it gives 9 alone
pub only_shared : (net : Netlist) → Only NotRule (shared_judgement net)
unfolding shared_judgement
only_shared net =
    only-lowest NotRule (gate_shared (readers net) net.inputs) (length net.gates) (λ i.
    only-unless NotRule (leb (readers net (net.inputs + i)) 1) SharedGate i (omega arith, omega arith))
