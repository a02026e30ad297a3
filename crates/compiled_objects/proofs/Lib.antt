pub mod FastPlans
