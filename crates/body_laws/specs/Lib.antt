pub mod TypedPlan
pub mod Bodies
pub mod BodyPlans
pub mod Laws
