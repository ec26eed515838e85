-- What opening does once an image is loaded into words: refusals 9 and 13, and the words left.
use Rattle.std.specs.Prelude.{ℕ, List, [], ◌++◌, take, drop}
use Rattle.refusal.specs.Judgement.{Judgement}
use Rattle.refusal.specs.Judgement.{otherwise}
use Rattle.area.specs.Layout.{gates, outputs, needed}
use Rattle.area.specs.Rules.{room_judgement}
use Rattle.area.specs.Net.{net_of}
use Rattle.area.specs.Sum.{flip_sum, stored_sum}
use Rattle.work.specs.Work.{work_all}
use Rattle.live.specs.Shared.{shared_judgement}

abbrev pub room_of : List ℕ → ℕ → Judgement
room_of ws size = room_judgement (gates ws) (outputs ws) size

unfoldable pub loaded_judgement : List ℕ → ℕ → Judgement
loaded_judgement ws size = otherwise (shared_judgement (net_of ws [] [])) (room_of ws size)

unfoldable pub loaded_words : List ℕ → List ℕ → List ℕ
loaded_words ws area = stored_sum (work_all (take (needed (gates ws) (outputs ws)) ws ++ drop (needed (gates ws) (outputs ws)) area)) (flip_sum ws)
