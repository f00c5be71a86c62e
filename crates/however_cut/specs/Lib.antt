pub mod HoweverCut
