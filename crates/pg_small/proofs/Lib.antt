mod PickSteps
pub mod FewAges
